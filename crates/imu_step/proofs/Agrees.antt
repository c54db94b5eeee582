-- The covariance that the code computes agrees with the one that is defined: each is finite where the other is, and there they are equal. That is lean9's law (its
-- proofs/Agrees.antt), since the step's matrices have zeros where terms are left out. Assumes nothing.
use mathlib.Core.Path.{◌≡◌}
use mathlib.Core.Bool.{true}
use mathlib.Core.List.{List}
use lib.Ieee.{Float}
use Rattle.number.specs.Float.{finite}
use Rattle.lean9.proofs.Agrees.{Agrees, lean_agrees}
use Rattle.inertial.specs.declared.ImuCalib.{ImuCalib}
use Rattle.rotation.specs.declared.Increment.{Increment}
use Rattle.imu_step.specs.Inside.Lean.{lean_covariance_after}
use Rattle.imu_step.specs.Parts.{carried, covariance_after, matrix_a, matrix_b, matrix_n}
use Rattle.imu_step.proofs.Shapes.{step_shape, noise_shape, diagonal_shape}

pub covariance_agrees : (C : List Float) (c : ImuCalib) (ΔR : List Float) (d : Increment) (G : List Float) (dt : Float) → finite dt ≡ true
    → Agrees (lean_covariance_after C c ΔR d G dt) (covariance_after C c ΔR d G dt)
unfolding lean_covariance_after covariance_after carried
covariance_agrees C c ΔR d G dt p =
    lean_agrees (matrix_a d.exp G dt) C (matrix_b d.jacobian ΔR dt) (matrix_n c dt) (step_shape d.exp G dt p) (noise_shape d.jacobian ΔR dt) (diagonal_shape c dt)
