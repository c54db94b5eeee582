-- `step_column` meets its contract: the closure answers the sum of each row. Assumes nothing.
use Rattle.std.proofs.Common.{rules}
use lib.Ieee.{nan}
use Rattle.number.specs.Float.{◌⊗◌}
use Rattle.mat9.specs.Matrix.{entry}
use Rattle.mat9.proofs.Made.{made_by}
use Rattle.lean9.specs.Inside.Lean.{kept_in_step, kept_sum}
use Rattle.lean9.proofs.step_column.Goals as goal

pub returns : goal.returns
returns c =
    made_by {n = 9} (λ r. kept_sum 9 (kept_in_step r) (λ k. entry 9 c.args.a.now r k ⊗ entry 9 c.args.m.now k c.args.c)) nan c.from_fn.ensures.items (λ i y q l call. search rules)
