-- 01, Refusal numbers: what an answer of the integrator says.
use Rattle.std.specs.Prelude.{Result}
use Rattle.number.specs.Said.{Told, told_result, told_after}
use Rattle.drive.specs.declared.Refusal.{Refusal}
use Rattle.drive.specs.Refusals.{row_of}
use Rattle.wheel.specs.declared.WheelPreintegration.{WheelPreintegration}
use Rattle.wheel.specs.Integrator.{blank}

-- making one: a refusal gives "no state"
abbrev pub told_made : Result WheelPreintegration Refusal → Told WheelPreintegration
told_made r = told_result row_of blank r

-- a call that changes a state, and the state after it
abbrev pub told_answer : Result (Unit {0}) Refusal → WheelPreintegration → Told WheelPreintegration
told_answer r after = told_after row_of r after
