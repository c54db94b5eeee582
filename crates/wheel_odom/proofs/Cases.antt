-- What is said in 01's numbers, and the value beside it, determine the answer: each case can be read back from its number. Assumes nothing.
use Rattle.std.proofs.Common.{◌≡◌, List, refl, eqb}
use Rattle.std.specs.Prelude.{Result, Float}
use Rattle.number.specs.Float.{◌when◌else◌}
use Rattle.number.specs.Said.{Row}
use Rattle.number.proofs.Cases.{determined, told_result_determined}
use Rattle.sincos.specs.declared.Refusal.{Refusal as Composing}
use Rattle.sincos.specs.Refusals.{row_of as composing_row}
use Rattle.sincos.proofs.Cases.{row_determined as composing_row_determined}
use Rattle.wheel_odom.specs.declared.Refusal.{Refusal}
use Rattle.wheel_odom.specs.declared.Refusal.TheVariants as R
use Rattle.wheel_odom.specs.declared.WheelOdomMeasurement.{WheelOdomMeasurement}
use Rattle.wheel_odom.specs.Measurement.{blank, told_measurement}
use Rattle.wheel_odom.specs.Information.{row_of, told_informed, zeros36}

abbrev refusal_with : Row → Refusal
refusal_with r = R.NonFinite when eqb r.number 2 else R.AngleRange when eqb r.number 8 else R.NoInformation

refusal_back : (r : Refusal) → refusal_with (row_of r) ≡ r
refusal_back R.NoInformation = refl
refusal_back R.AngleRange = refl
refusal_back R.NonFinite = refl

pub row_determined : (a b : Refusal) → row_of a ≡ row_of b → a ≡ b
row_determined = determined row_of refusal_with refusal_back

pub measurement_determined : (a b : Result WheelOdomMeasurement Composing) → told_measurement a ≡ told_measurement b → a ≡ b
measurement_determined = told_result_determined composing_row composing_row_determined blank

pub informed_determined : (a b : Result (List Float) Refusal) → told_informed a ≡ told_informed b → a ≡ b
informed_determined = told_result_determined row_of row_determined zeros36
