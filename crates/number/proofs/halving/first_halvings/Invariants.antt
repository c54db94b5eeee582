-- `halving::first_halvings` meets its contract. The invariant: `parts` is 2^count, and the search from 0 has come to the search from `count`.
-- Assumes nothing.
use Rattle.std.proofs.Common.{◌≡◌, ℕ, ◌-◌, ◌≤◌}
use lib.Ieee.{Float}
use Rattle.number.specs.Halving.{power, first_from}
use Rattle.number.proofs.halving.first_halvings.Given as goal

pub record Tried (ratio : Float) (count : ℕ) (parts : Float) : Type 0 where
  pub most : count ≤ 20
  pub doubled : parts ≡ power count
  pub found : first_from 20 0 ratio ≡ first_from (20 - count) count ratio

abbrev pub invariant-loop-count : goal.invariant-loop-count
invariant-loop-count l = Tried l.ratio l.count l.parts
