-- What is said in 01's numbers and values determines the answer: each refusal can be read back from its number and values. Assumes nothing.
use Rattle.std.proofs.Common.{◌≡◌, refl, get_or, Result}
use lib.Dec.{eqb}
use lib.Ieee.{nan}
use Rattle.number.specs.Float.{◌when◌else◌}
use Rattle.number.specs.Said.{Row}
use Rattle.number.proofs.Cases.{determined, said_result_determined}
use Rattle.drive.specs.declared.BodyTwist.{BodyTwist}
use Rattle.drive.specs.declared.Refusal.{Refusal}
use Rattle.drive.specs.declared.Refusal.TheVariants as R
use Rattle.drive.specs.declared.TwistColumns.{TwistColumns}
use Rattle.drive.specs.declared.WheelRates.{WheelRates}
use Rattle.drive.specs.Refusals.{row_of, said_twisted, said_jacobian, said_rated}

-- the refusal that has a row
abbrev numbered : Row → Refusal
numbered r =
    R.Invalid when eqb r.number 1 else
    R.NonFinite when eqb r.number 2 else
    R.OutOfOrder (get_or r.values 0 nan) (get_or r.values 1 nan) when eqb r.number 3 else
    R.Duplicate (get_or r.values 0 nan) when eqb r.number 4 else
    R.MixedReadings when eqb r.number 5 else
    R.InvalidNoise when eqb r.number 6 else
    R.InvalidKinematics when eqb r.number 7 else
    R.AngleRange when eqb r.number 8 else
    R.TickRange

pub refusal_back : (r : Refusal) → numbered (row_of r) ≡ r
refusal_back R.Invalid = refl
refusal_back R.NonFinite = refl
refusal_back (R.OutOfOrder time last) = refl
refusal_back (R.Duplicate time) = refl
refusal_back R.MixedReadings = refl
refusal_back R.InvalidNoise = refl
refusal_back R.InvalidKinematics = refl
refusal_back R.AngleRange = refl
refusal_back R.TickRange = refl

pub row_determined : (a b : Refusal) → row_of a ≡ row_of b → a ≡ b
row_determined = determined row_of numbered refusal_back

pub twisted_determined : (a b : Result BodyTwist Refusal) → said_twisted a ≡ said_twisted b → a ≡ b
twisted_determined = said_result_determined row_of row_determined

pub jacobian_determined : (a b : Result TwistColumns Refusal) → said_jacobian a ≡ said_jacobian b → a ≡ b
jacobian_determined = said_result_determined row_of row_determined

pub rated_determined : (a b : Result WheelRates Refusal) → said_rated a ≡ said_rated b → a ≡ b
rated_determined = said_result_determined row_of row_determined
