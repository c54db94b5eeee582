-- `step_row` meets its contract: by the row of a, the terms that are kept are those of the first three columns, with that of the diagonal from row 3 on, and that of
-- the column three before from row 6 on. Assumes nothing.
use Prim.Native.Nat.{ℕ}
use native.Mathlib.Omega.{arith}
use lib.Ieee.{Float}
use Rattle.number.specs.Float.{◌⊗◌}
use Rattle.mat9.specs.Matrix.{entry}
use Rattle.lean9.proofs.Kept.{kept_in_top, kept_in_middle, kept_in_bottom}
use Rattle.lean9.proofs.step_row.Goals as goal

pub returns-then-r-lt3 : goal.returns-then-r-lt3
returns-then-r-lt3 c =
    let f : ℕ → Float = λ k. entry 9 c.args.a.now c.args.r k ⊗ entry 9 c.args.m.now k c.args.c in
    rw (c.term_of-3.ensures, c.term_of-2.ensures, c.term_of.ensures) (kept_in_top f c.args.r (omega arith))

pub returns-then-r-lt6 : goal.returns-then-r-lt6
returns-then-r-lt6 c =
    let f : ℕ → Float = λ k. entry 9 c.args.a.now c.args.r k ⊗ entry 9 c.args.m.now k c.args.c in
    rw (c.term_of-own.ensures, c.term_of-3.ensures, c.term_of-2.ensures, c.term_of.ensures) (kept_in_middle f c.args.r (omega arith) (omega arith))

pub returns : goal.returns
returns c =
    let f : ℕ → Float = λ k. entry 9 c.args.a.now c.args.r k ⊗ entry 9 c.args.m.now k c.args.c in
    rw (c.term_of-4.ensures, c.term_of-own.ensures, c.term_of-3.ensures, c.term_of-2.ensures, c.term_of.ensures) (kept_in_bottom f c.args.r (omega arith) (omega arith))
