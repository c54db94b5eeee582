-- What is said in 01's numbers and values of whether a reading fits determines the answer. Assumes nothing.
use Rattle.std.proofs.Common.{◌≡◌, Result}
use Rattle.number.proofs.Cases.{said_result_determined}
use Rattle.drive.proofs.Cases.{row_determined}
use Rattle.drive.specs.Refusals.{row_of}
use Rattle.drive.specs.declared.Refusal.{Refusal}
use Rattle.step_order.specs.Order.{said_fit}

pub outcome_determined : (a b : Result (Unit {0}) Refusal) → said_fit a ≡ said_fit b → a ≡ b
outcome_determined = said_result_determined row_of row_determined
