-- What an inertial call says in 01's numbers, and the state that stands beside it, determine the answer: a refusal is read back from its row. Assumes nothing.
use Rattle.std.proofs.Common.{◌≡◌, refl, eqb}
use Rattle.std.specs.Prelude.{Result, Ok, Err}
use Rattle.std.specs.Result.{result_unwrap_or}
use Rattle.number.specs.Float.{◌when◌else◌}
use Rattle.number.specs.Said.{Row}
use Rattle.number.proofs.Cases.{determined, told_after_determined, told_result_determined}
use Rattle.number.proofs.Refusals.{row_determined as number_row_determined}
use Rattle.number.specs.declared.refusal.Refusal.{Refusal as NumberRefusal}
use Rattle.number.specs.Refusals.{row_of as number_row_of}
use Rattle.imu.specs.declared.PreintegratedImu.{PreintegratedImu}
use Rattle.imu.specs.declared.Refusal.{Refusal}
use Rattle.imu.specs.declared.Refusal.TheVariants as R
use Rattle.imu.specs.Answers.{row_of}
use Rattle.imu.specs.State.{blank, told_integrated, told_made, told_widened}

abbrev refusal_of : Row → Refusal
refusal_of r =
    R.NonFinite when eqb r.number 2 else
    R.OutOfOrder when eqb r.number 3 else
    R.Duplicate when eqb r.number 4 else
    R.InvalidNoise when eqb r.number 6 else
    R.AngleRange

refusal_back : (a : Refusal) → refusal_of (row_of a) ≡ a
refusal_back R.NonFinite = refl
refusal_back R.OutOfOrder = refl
refusal_back R.Duplicate = refl
refusal_back R.InvalidNoise = refl
refusal_back R.AngleRange = refl

pub row_determined : (a b : Refusal) → row_of a ≡ row_of b → a ≡ b
row_determined = determined row_of refusal_of refusal_back

pub made_determined : (a b : Result PreintegratedImu Refusal) → told_made a ≡ told_made b → a ≡ b
made_determined = told_result_determined row_of row_determined blank

-- with the blank taken where there is none, a making's answer is the state that it tells
pub made_or_blank : (r : Result PreintegratedImu Refusal) → result_unwrap_or r blank ≡ (told_made r).value
made_or_blank (Ok s) = refl
made_or_blank (Err why) = refl

pub widened_determined : (a b : Result (Unit {0}) NumberRefusal) (s t : PreintegratedImu) → told_widened a s ≡ told_widened b t → (a ≡ b) × (s ≡ t)
widened_determined = told_after_determined number_row_of number_row_determined

pub integrated_determined : (a b : Result (Unit {0}) Refusal) (s t : PreintegratedImu) → told_integrated a s ≡ told_integrated b t → (a ≡ b) × (s ≡ t)
integrated_determined = told_after_determined row_of row_determined
