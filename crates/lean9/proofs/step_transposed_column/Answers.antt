-- `step_transposed_column` meets its contract: by the row of a, which is column c of its transpose, the terms that are kept are those of the first three columns,
-- with that of the diagonal from row 3 on, and that of the column three before from row 6 on. Assumes nothing.
use mathlib.Core.Path.{◌∙◌}
use Prim.Native.Nat.{ℕ, ◌-◌}
use native.Mathlib.Omega.{arith}
use lib.Ieee.{Float}
use Rattle.number.specs.Float.{◌⊕◌}
use Rattle.lean9.specs.Inside.Lean.{kept_in_step, kept_sum, term, three_from}
use Rattle.lean9.proofs.Columns.{plus_tabulated, tabulated_same}
use Rattle.lean9.proofs.Kept.{kept_in_top, kept_in_middle, kept_in_bottom}
use Rattle.lean9.proofs.step_transposed_column.Goals as goal

pub returns-then-c-lt3 : goal.returns-then-c-lt3
returns-then-c-lt3 c =
    let j = c.args.c in
    let f : ℕ → ℕ → Float = λ r. term c.args.m.now c.args.a.now r j in
    let kept : ℕ → Float = λ r. kept_sum 9 (kept_in_step j) (f r) in
    c.three_terms-w.ensures ∙ tabulated_same 9 (λ r. three_from 0 (f r)) kept (λ r i. kept_in_top (f r) j (omega arith))

pub returns-then-c-lt6 : goal.returns-then-c-lt6
returns-then-c-lt6 c =
    let j = c.args.c in
    let f : ℕ → ℕ → Float = λ r. term c.args.m.now c.args.a.now r j in
    let kept : ℕ → Float = λ r. kept_sum 9 (kept_in_step j) (f r) in
    c.plus_term.ensures
    ∙ plus_tabulated (λ r. three_from 0 (f r)) (λ r. f r j) c.three_terms-w.ensures
    ∙ tabulated_same 9 (λ r. three_from 0 (f r) ⊕ f r j) kept (λ r i. kept_in_middle (f r) j (omega arith) (omega arith))

pub returns : goal.returns
returns c =
    let j = c.args.c in
    let f : ℕ → ℕ → Float = λ r. term c.args.m.now c.args.a.now r j in
    let kept : ℕ → Float = λ r. kept_sum 9 (kept_in_step j) (f r) in
    c.plus_term-3.ensures
    ∙ plus_tabulated (λ r. three_from 0 (f r) ⊕ f r (j - 3)) (λ r. f r j)
    (c.plus_term-2.ensures ∙ plus_tabulated (λ r. three_from 0 (f r)) (λ r. f r (j - 3)) c.three_terms-w.ensures)
    ∙ tabulated_same 9 (λ r. three_from 0 (f r) ⊕ f r (j - 3) ⊕ f r j) kept (λ r i. kept_in_bottom (f r) j (omega arith) (omega arith))
