-- What an answer of the integrator says in 01's numbers and values determines it. Assumes nothing.
use Rattle.std.proofs.Common.{◌≡◌, refl, Result, Ok, Err}
use Rattle.std.specs.Result.{result_unwrap_or}
use Rattle.number.proofs.Cases.{told_result_determined, told_after_determined}
use Rattle.drive.proofs.Cases.{row_determined}
use Rattle.drive.specs.Refusals.{row_of}
use Rattle.drive.specs.declared.Refusal.{Refusal}
use Rattle.wheel.specs.declared.WheelPreintegration.{WheelPreintegration}
use Rattle.wheel.specs.Answers.{told_made, told_answer}
use Rattle.wheel.specs.Integrator.{blank}

pub made_determined : (a b : Result WheelPreintegration Refusal) → told_made a ≡ told_made b → a ≡ b
made_determined = told_result_determined row_of row_determined blank

-- and so does what is said of a call that changes a state, with the state after it
pub answer_determined : (a b : Result (Unit {0}) Refusal) (s t : WheelPreintegration) → told_answer a s ≡ told_answer b t → (a ≡ b) × (s ≡ t)
answer_determined = told_after_determined row_of row_determined

-- where 01 gives "no state", the blank one stands
pub made_or_blank : (r : Result WheelPreintegration Refusal) → result_unwrap_or r blank ≡ (told_made r).value
made_or_blank (Ok s) = refl
made_or_blank (Err r) = refl
