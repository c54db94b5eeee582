-- `step_times` meets its contract: what the closure answers is a column of the product. Assumes nothing.
use Rattle.std.proofs.Common.{rules}
use Rattle.mat9.specs.Matrix.{entry}
use Rattle.lean9.specs.Inside.Lean.{kept_entry, kept_in_step, kept_product, step_times}
use Rattle.lean9.proofs.step_times.Goals as goal

pub returns : goal.returns
unfolding step_times kept_product
returns c = c.of_columns.ensures (kept_entry 9 (λ i j. kept_in_step i) (entry 9 c.args.a.now) (entry 9 c.args.m.now)) (λ j w m call. search rules)
