-- The invariants of the loops of `of_columns`: the columns before c are filled, and of column c the rows before r. Assumes nothing.
use Rattle.std.proofs.Common.{◌≡◌, ℕ, ◌<◌, Float, List}
use Rattle.number.specs.Tabulated.{tabulated}
use Rattle.mat9.proofs.Loops.{FilledTo}
use Rattle.lean9.proofs.of_columns.Given as goal

abbrev pub invariant-loop-r : goal.invariant-loop-r
invariant-loop-r g l =
    (f : ℕ → ℕ → Float) → ((c : ℕ) (w : List Float) → c < g.row.COLUMNS → goal.F-post g l.column c w → w ≡ tabulated 9 (λ r. f r c)) → FilledTo g.row.COLUMNS f l.initial.out l.r l.c l.out

abbrev pub invariant-loop-c : goal.invariant-loop-c
invariant-loop-c g l =
    (f : ℕ → ℕ → Float) → ((c : ℕ) (w : List Float) → c < g.row.COLUMNS → goal.F-post g l.column c w → w ≡ tabulated 9 (λ r. f r c)) → FilledTo g.row.COLUMNS f l.out 0 l.c l.out
