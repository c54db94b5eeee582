-- What is said in 01's numbers, and the factor beside it, determine the answer. Assumes nothing.
use Rattle.std.proofs.Common.{◌≡◌, refl, eqb}
use Rattle.std.specs.Prelude.{Result}
use Rattle.number.specs.Float.{◌when◌else◌}
use Rattle.number.specs.Said.{Row}
use Rattle.number.proofs.Cases.{determined, told_result_determined}
use Rattle.wheel_factor.specs.declared.Refusal.{Refusal}
use Rattle.wheel_factor.specs.declared.Refusal.TheVariants as R
use Rattle.wheel_factor.specs.declared.WheelOdomFactor.{WheelOdomFactor}
use Rattle.wheel_factor.specs.Factor.{blank_factor, row_of, told_factor}

abbrev refusal_with : Row → Refusal
refusal_with r = R.NonFinite when eqb r.number 2 else R.AngleRange when eqb r.number 8 else R.NotJoined

refusal_back : (r : Refusal) → refusal_with (row_of r) ≡ r
refusal_back R.NotJoined = refl
refusal_back R.NonFinite = refl
refusal_back R.AngleRange = refl

pub row_determined : (a b : Refusal) → row_of a ≡ row_of b → a ≡ b
row_determined = determined row_of refusal_with refusal_back

pub factor_determined : (a b : Result WheelOdomFactor Refusal) → told_factor a ≡ told_factor b → a ≡ b
factor_determined = told_result_determined row_of row_determined blank_factor
