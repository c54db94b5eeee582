-- Information is given only for a valid factor. Assumes nothing.
use Rattle.std.proofs.Common.{◌≡◌, arith}
use mathlib.Core.Bool.{true}
use Rattle.number.specs.Said.{gives}
use Rattle.stationary.specs.declared.StationaryFactor.{StationaryFactor}
use Rattle.stationary.specs.Factor.{valid_factor}
use Rattle.stationary_information.specs.Information.{information_of}

-- a factor that `information` does not refuse is valid
pub informed_valid : (f : StationaryFactor) → (information_of f).outcome ≡ gives tt → valid_factor f ≡ true
unfolding information_of
informed_valid f h = grind arith
