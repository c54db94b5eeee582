-- `times_noise_transposed` meets its contract: what the closure answers is a column of the product. Assumes nothing.
use Rattle.std.proofs.Common.{rules}
use Rattle.mat9.specs.Matrix.{entry}
use Rattle.lean9.specs.Inside.Lean.{kept_entry, kept_in_noise, kept_product, times_noise_transposed}
use Rattle.lean9.proofs.times_noise_transposed.Goals as goal

pub returns : goal.returns
unfolding times_noise_transposed kept_product
returns c = c.of_columns.ensures (kept_entry 6 (λ i j. kept_in_noise j) (entry 9 c.args.t.now) (λ k j. entry 9 c.args.b.now j k)) (λ j w m call. search rules)
