-- 01, Inertial accumulation: what one step makes of each part. "Update order as in the file; the 9×9 and 9×6 sums start from 0."
--
-- In the file's words, each with values from before the step:
--   position  Δp + Δv·dt + ½·ΔR·a·dt²
--   velocity  Δv + ΔR·a·dt
--   rotation  ΔR · exp((ω − bg)·dt)
--   C' = A·C·Aᵀ + B·N·Bᵀ
use Rattle.std.specs.Prelude.{List, [], ◌∷◌, Float}
use Rattle.number.specs.Float.{◌⊗◌, ◌⊘◌, −◌}
use Rattle.number.specs.Constants.{half}
use Rattle.vec3.specs.Vector.{vector_sum, vector_scaled}
use Rattle.mat3.specs.Matrix.{zeros, identity, product, transform, transpose, sum, difference, scaled}
use Rattle.mat9.specs.Matrix.{blocks, diagonal6, transposed, product as product9, sum as sum9}
use Rattle.inertial.specs.declared.ImuCalib.{ImuCalib}
use Rattle.rotation.specs.declared.Increment.{Increment}
use Rattle.rotation.specs.Rotation.{normalized}
use Rattle.imu_step.specs.declared.Motion.{Motion}

-- ½·dt²
abbrev pub half_square : Float → Float
half_square dt = half ⊗ dt ⊗ dt

-- ---- the covariance: C' = A·C·Aᵀ + B·N·Bᵀ

-- −ΔR·[a]×·dt and −½·ΔR·[a]×·dt², of G = ΔR·[a]×
abbrev pub less_times : List Float → Float → List Float
less_times G dt = scaled G (− dt)

abbrev pub less_half_square : List Float → Float → List Float
less_half_square G dt = scaled G ((− half) ⊗ dt ⊗ dt)

unfoldable pub matrix_a : (dR G : List Float) → Float → List Float
matrix_a dR G dt = blocks 3 3 (
    transpose dR ∷ zeros ∷ zeros ∷
    less_times G dt ∷ identity ∷ zeros ∷
    less_half_square G dt ∷ scaled identity dt ∷ identity ∷ [])

unfoldable pub matrix_b : (Jr ΔR : List Float) → Float → List Float
matrix_b Jr ΔR dt = blocks 3 2 (
    scaled Jr dt ∷ zeros ∷
    zeros ∷ scaled ΔR dt ∷
    zeros ∷ scaled ΔR (half_square dt) ∷ [])

-- "density²/dt"
unfoldable pub matrix_n : ImuCalib → Float → List Float
matrix_n c dt = diagonal6 (c.gyro_noise ⊗ c.gyro_noise ⊘ dt) (c.accel_noise ⊗ c.accel_noise ⊘ dt)

unfoldable pub carried : (A C B N : List Float) → List Float
carried A C B N =
    sum9 9 9
    (product9 9 9 9 (product9 9 9 9 A C) (transposed 9 9 A))
    (product9 9 6 9 (product9 9 6 6 B N) (transposed 9 6 B))

-- of C, the state's covariance, and ΔR, its rotation, the turn's Exp and Jacobian being d
unfoldable pub covariance_after : (C : List Float) → ImuCalib → (ΔR : List Float) → Increment → (G : List Float) → Float → List Float
covariance_after C c ΔR d G dt = carried (matrix_a d.exp G dt) C (matrix_b d.jacobian ΔR dt) (matrix_n c dt)

-- ---- how the deltas move with the biases: pg is ∂Δp/∂bg, and so on

unfoldable pub position_by_gyro : (pg vg rg G : List Float) → Float → List Float
position_by_gyro pg vg rg G dt = sum (sum pg (scaled vg dt)) (product (less_half_square G dt) rg)

unfoldable pub position_by_accel : (pa va ΔR : List Float) → Float → List Float
position_by_accel pa va ΔR dt = difference (sum pa (scaled va dt)) (scaled ΔR (half_square dt))

unfoldable pub velocity_by_gyro : (vg rg G : List Float) → Float → List Float
velocity_by_gyro vg rg G dt = sum vg (product (less_times G dt) rg)

unfoldable pub velocity_by_accel : (va ΔR : List Float) → Float → List Float
velocity_by_accel va ΔR dt = difference va (scaled ΔR dt)

unfoldable pub rotation_by_gyro : (rg : List Float) → Increment → Float → List Float
rotation_by_gyro rg d dt = difference (product (transpose d.exp) rg) (scaled d.jacobian dt)

-- ---- the deltas, u being ΔR·a

unfoldable pub position_after : (Δp Δv u : List Float) → Float → List Float
position_after Δp Δv u dt = vector_sum (vector_sum Δp (vector_scaled Δv dt)) (vector_scaled u (half_square dt))

unfoldable pub velocity_after : (Δv u : List Float) → Float → List Float
velocity_after Δv u dt = vector_sum Δv (vector_scaled u dt)

unfoldable pub rotation_after : (ΔR : List Float) → Increment → List Float
rotation_after ΔR d = normalized (product ΔR d.exp)

unfoldable pub motion_after : Motion → Increment → (a : List Float) → Float → Motion
motion_after m d a dt =
    let u = transform m.rotation a in
    record { rotation = rotation_after m.rotation d; velocity = velocity_after m.velocity u dt; position = position_after m.position m.velocity u dt }
