-- What the code computes for the covariance: the products without what meets a zero (lean9's words).
use Rattle.std.specs.Prelude.{List, Float}
use Rattle.lean9.specs.Inside.Lean.{lean_carried}
use Rattle.inertial.specs.declared.ImuCalib.{ImuCalib}
use Rattle.rotation.specs.declared.Increment.{Increment}
use Rattle.imu_step.specs.Parts.{matrix_a, matrix_b, matrix_n}

unfoldable pub lean_covariance_after : (C : List Float) → ImuCalib → (ΔR : List Float) → Increment → (G : List Float) → Float → List Float
lean_covariance_after C c ΔR d G dt = lean_carried (matrix_a d.exp G dt) C (matrix_b d.jacobian ΔR dt) (matrix_n c dt)
