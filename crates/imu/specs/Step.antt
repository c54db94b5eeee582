-- 01, Inertial accumulation: one step. What it makes of each part of the state is imu_step's Parts.antt.
use Rattle.std.specs.Prelude.{not, ◌&&◌, List, Float}
use Rattle.number.specs.Float.{◌⊕◌, ◌<ᶠ◌, ◌=ᶠ◌, ◌when◌else◌, finite}
use Rattle.number.specs.Constants.{zero as +0}
use Rattle.number.specs.Said.{Told, accepts, refuses}
use Rattle.sincos.specs.Turn.{above_four}
use Rattle.vec3.specs.Vector.{vector_difference, vector_scaled}
use Rattle.mat3.specs.Matrix.{product}
use Rattle.inertial.specs.declared.ImuMeasurement.{ImuMeasurement}
use Rattle.rotation.specs.declared.Increment.{Increment}
use Rattle.rotation.specs.Rotation.{hat_of, increment_of}
use Rattle.imu_step.specs.declared.Motion.{Motion}
use Rattle.imu_step.specs.Parts.{covariance_after, motion_after, position_by_accel, position_by_gyro, rotation_by_gyro, velocity_by_accel, velocity_by_gyro}
use Rattle.imu.specs.declared.PreintegratedImu.{PreintegratedImu}
use Rattle.imu.specs.State.{finite_measurement, finite_state, walked}

-- ---- the reading less the biases

-- (ω − bg)·dt
unfoldable pub turn_in : PreintegratedImu → ImuMeasurement → Float → List Float
turn_in s m dt = vector_scaled (vector_difference m.gyro s.bias.gyro) dt

-- a, less its bias
unfoldable pub accel_in : PreintegratedImu → ImuMeasurement → List Float
accel_in s m = vector_difference m.accel s.bias.accel

-- ---- the state after it, a being the acceleration less its bias

-- G = ΔR·[a]×
abbrev pub rotated_hat : PreintegratedImu → (a : List Float) → List Float
rotated_hat s a = product s.delta_rotation (hat_of a)

abbrev pub motion_of : PreintegratedImu → Motion
motion_of s = record { rotation = s.delta_rotation; velocity = s.delta_velocity; position = s.delta_position }

-- with C' as its covariance
unfoldable pub advanced_with : (C' : List Float) → PreintegratedImu → Increment → (a : List Float) → Float → PreintegratedImu
advanced_with C' s d a dt =
    let ΔR = s.delta_rotation in
    let G = rotated_hat s a in
    let moved = motion_after (motion_of s) d a dt in
    record {
      delta_rotation = moved.rotation;
      delta_velocity = moved.velocity;
      delta_position = moved.position;
      dt = s.dt ⊕ dt;
      bias = s.bias;
      calib = s.calib;
      covariance = C';
      bias_covariance = walked s dt;
      d_rotation_d_bias_gyro = rotation_by_gyro s.d_rotation_d_bias_gyro d dt;
      d_velocity_d_bias_gyro = velocity_by_gyro s.d_velocity_d_bias_gyro s.d_rotation_d_bias_gyro G dt;
      d_velocity_d_bias_accel = velocity_by_accel s.d_velocity_d_bias_accel ΔR dt;
      d_position_d_bias_gyro = position_by_gyro s.d_position_d_bias_gyro s.d_velocity_d_bias_gyro s.d_rotation_d_bias_gyro G dt;
      d_position_d_bias_accel = position_by_accel s.d_position_d_bias_accel s.d_velocity_d_bias_accel ΔR dt;
    }

unfoldable pub advanced_by : PreintegratedImu → Increment → (a : List Float) → Float → PreintegratedImu
advanced_by s d a dt = advanced_with (covariance_after s.covariance s.calib s.delta_rotation d (rotated_hat s a) dt) s d a dt

unfoldable pub advanced : PreintegratedImu → ImuMeasurement → Float → PreintegratedImu
advanced s m dt = advanced_by s (increment_of (turn_in s m dt)) (accel_in s m) dt

unfoldable pub angle_in : PreintegratedImu → ImuMeasurement → Float → Float
angle_in s m dt = (increment_of (turn_in s m dt)).angle

-- ---- "One step: 2 for any of the reading's seven numbers or dt, 3, 4, 8 if the rotation angle θ is finite and above 4, 2 if θ or any result field
-- is not finite."
unfoldable pub step_of : PreintegratedImu → ImuMeasurement → Float → Told PreintegratedImu
step_of s m dt =
    refuses 2 s when not (finite_measurement m && finite dt) else
    refuses 3 s when dt <ᶠ +0 else
    refuses 4 s when dt =ᶠ +0 else
    refuses 8 s when above_four (angle_in s m dt) else
    refuses 2 s when not (finite (angle_in s m dt)) else
    refuses 2 s when not (finite_state (advanced s m dt)) else
    accepts (advanced s m dt)
