-- What 01 states of a call that is refused, and 02, W-206, of the kept values, as one record. It is proved in proofs/Statements.antt. Runs of steps: runs'
-- Theorem.antt.
use Rattle.std.specs.Prelude.{ℕ, ◌≡◌, List, Float}
use Rattle.number.specs.Said.{refused, accepts}
use Rattle.drive.specs.declared.DifferentialDrive.{DifferentialDrive}
use Rattle.drive.specs.declared.WheelNoise.{WheelNoise}
use Rattle.drive.specs.declared.WheelMeasurement.{WheelMeasurement}
use Rattle.wheel.specs.declared.WheelPreintegration.{WheelPreintegration}
use Rattle.wheel.specs.Integrator.{make_of, restarted, change_of, Kept}
use Rattle.wheel.specs.Step.{step_of, step_afresh}

pub record Statements : Type 0 where
  -- "A refused call returns the number and the state given in."
  pub refused_keeps : (s : WheelPreintegration) (m : WheelMeasurement) (n : ℕ) (values : List Float) → (step_of s m).outcome ≡ refused n values → (step_of s m).value ≡ s
  -- a change that is refused "leaves everything"
  pub refused_change_keeps : (s : WheelPreintegration) (d : DifferentialDrive) (noise : WheelNoise) (n : ℕ) (values : List Float) → (change_of s d noise).outcome ≡ refused n values → (change_of s d noise).value ≡ s
  -- "Every operation keeps them equal, bit for bit, to the values worked out afresh": making gives it, and restart, change and step keep it, refused ones too
  pub kept_made : (d : DifferentialDrive) (n : WheelNoise) (s : WheelPreintegration) → make_of d n ≡ accepts s → Kept s
  pub kept_restarted : (s : WheelPreintegration) → Kept s → Kept (restarted s)
  pub kept_changed : (s : WheelPreintegration) (d : DifferentialDrive) (n : WheelNoise) → Kept s → Kept (change_of s d n).value
  pub kept_stepped : (s : WheelPreintegration) (m : WheelMeasurement) → Kept s → Kept (step_of s m).value
  -- "and all answers stay the same"
  pub as_afresh : (s : WheelPreintegration) (m : WheelMeasurement) → Kept s → step_of s m ≡ step_afresh s m
