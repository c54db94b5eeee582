-- What a correction or a prediction says in 01's numbers, and the value beside it, determine the answer. Assumes nothing.
use Rattle.std.proofs.Common.{◌≡◌, List}
use Rattle.std.specs.Prelude.{Float, Result}
use Rattle.number.proofs.Cases.{told_result_determined}
use Rattle.number.specs.declared.refusal.Refusal.{Refusal}
use Rattle.number.specs.Refusals.{row_of}
use Rattle.number.proofs.Refusals.{row_determined}
use Rattle.sincos.specs.declared.Refusal.{Refusal as TurnRefusal}
use Rattle.sincos.specs.Refusals.{row_of as row_of_turn}
use Rattle.sincos.proofs.Cases.{row_determined as row_of_turn_determined}
use Rattle.mat3.specs.Matrix.{zeros}
use Rattle.vec3.specs.Vector.{zero_vector}
use Rattle.imu_step.specs.declared.Motion.{Motion}
use Rattle.imu_correction.specs.Correction.{no_prediction, told_predicted, told_rotation, told_vector}

pub rotation_determined : (a b : Result (List Float) TurnRefusal) → told_rotation a ≡ told_rotation b → a ≡ b
rotation_determined = told_result_determined row_of_turn row_of_turn_determined zeros

pub vector_determined : (a b : Result (List Float) Refusal) → told_vector a ≡ told_vector b → a ≡ b
vector_determined = told_result_determined row_of row_determined zero_vector

pub predicted_determined : (a b : Result Motion Refusal) → told_predicted a ≡ told_predicted b → a ≡ b
predicted_determined = told_result_determined row_of row_determined no_prediction
