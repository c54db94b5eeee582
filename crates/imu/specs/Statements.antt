-- What 01 states of one inertial call, as one record. It is proved in proofs/Statements.antt. Runs of calls: imu_window's Statements.antt.
use Rattle.std.specs.Prelude.{ℕ, ◌<◌, ◌≡◌, true, List, Float}
use Rattle.number.specs.Constants.{zero as +0}
use Rattle.number.specs.Said.{gives, refused}
use Rattle.mat9.specs.Matrix.{entry}
use Rattle.inertial.specs.declared.ImuMeasurement.{ImuMeasurement}
use Rattle.imu.specs.declared.PreintegratedImu.{PreintegratedImu}
use Rattle.imu.specs.State.{finite_state}
use Rattle.imu.specs.Step.{step_of}

-- a 6×6 matrix with +0 everywhere off its diagonal
pub record DiagonalOnly (m : List Float) : Type 0 where
  pub off : (i j : ℕ) → i < 6 → j < 6 → (i ≡ j → ⊥) → entry 6 m i j ≡ +0

pub record Statements : Type 0 where
  -- "A refused call returns the number and the state given in."
  pub refused_keeps : (s : PreintegratedImu) (m : ImuMeasurement) (dt : Float) (n : ℕ) (values : List Float) → (step_of s m dt).outcome ≡ refused n values → (step_of s m dt).value ≡ s
  -- "2 if θ or any result field is not finite": of a step that is taken every field is finite
  pub accepted_finite : (s : PreintegratedImu) (m : ImuMeasurement) (dt : Float) → (step_of s m dt).outcome ≡ gives tt → finite_state (step_of s m dt).value ≡ true
