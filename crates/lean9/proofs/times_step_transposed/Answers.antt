-- `times_step_transposed` meets its contract: what the closure answers is a column of the product. Assumes nothing.
use Rattle.std.proofs.Common.{rules}
use Rattle.mat9.specs.Matrix.{entry}
use Rattle.lean9.specs.Inside.Lean.{kept_entry, kept_in_step, kept_product, times_step_transposed}
use Rattle.lean9.proofs.times_step_transposed.Goals as goal

pub returns : goal.returns
unfolding times_step_transposed kept_product
returns c = c.of_columns.ensures (kept_entry 9 (λ i j. kept_in_step j) (entry 9 c.args.m.now) (λ k j. entry 9 c.args.a.now j k)) (λ j w m call. search rules)
