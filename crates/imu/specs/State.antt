-- 01, Inertial accumulation: the state, a fresh one, and what it is to be finite.
use Rattle.std.specs.Prelude.{Result, Bool, not, ◌&&◌, List, Float, replicate}
use Rattle.number.specs.Float.{◌⊗◌, ◌when◌else◌, finite}
use Rattle.number.specs.Constants.{zero as +0}
use Rattle.number.specs.Fit.{finite_not_negative, finite_positive}
use Rattle.number.specs.Said.{Told, accepts, refuses, told_after, told_result}
use Rattle.number.specs.declared.refusal.Refusal.{Refusal as NumberRefusal}
use Rattle.number.specs.Refusals.{row_of as number_row_of}
use Rattle.mat3.specs.Matrix.{zeros, identity, finite_matrix}
use Rattle.vec3.specs.Vector.{zero_vector, finite_vector}
use Rattle.mat9.specs.Matrix.{all_finite, diagonal_raised, finite_diagonal}
use Rattle.inertial.specs.declared.ImuMeasurement.{ImuMeasurement}
use Rattle.inertial.specs.declared.ImuBias.{ImuBias}
use Rattle.inertial.specs.declared.ImuCalib.{ImuCalib}
use Rattle.imu.specs.declared.PreintegratedImu.{PreintegratedImu}
use Rattle.imu.specs.declared.Refusal.{Refusal}
use Rattle.imu.specs.Answers.{row_of}

-- ---- making one

-- nothing but +0: nine rows and columns, and six
abbrev pub zeros81 : List Float
zeros81 = replicate 81 +0

abbrev pub zeros36 : List Float
zeros36 = replicate 36 +0

abbrev pub fresh : ImuBias → ImuCalib → PreintegratedImu
fresh b c = record {
  delta_rotation = identity;
  delta_velocity = zero_vector;
  delta_position = zero_vector;
  dt = +0;
  bias = b;
  calib = c;
  covariance = zeros81;
  bias_covariance = zeros36;
  d_rotation_d_bias_gyro = zeros;
  d_velocity_d_bias_gyro = zeros;
  d_velocity_d_bias_accel = zeros;
  d_position_d_bias_gyro = zeros;
  d_position_d_bias_accel = zeros;
}

-- "no state": every number +0
abbrev pub blank : PreintegratedImu
blank = record {
  delta_rotation = zeros;
  delta_velocity = zero_vector;
  delta_position = zero_vector;
  dt = +0;
  bias = record { gyro = zero_vector; accel = zero_vector };
  calib = record { gyro_noise = +0; accel_noise = +0; gyro_bias_noise = +0; accel_bias_noise = +0 };
  covariance = zeros81;
  bias_covariance = zeros36;
  d_rotation_d_bias_gyro = zeros;
  d_velocity_d_bias_gyro = zeros;
  d_velocity_d_bias_accel = zeros;
  d_position_d_bias_gyro = zeros;
  d_position_d_bias_accel = zeros;
}

-- 01, Refusal numbers, 6: "a noise number not finite or below 0"
unfoldable pub valid_calib : ImuCalib → Bool
valid_calib c =
    finite_not_negative c.gyro_noise
    && finite_not_negative c.accel_noise
    && finite_not_negative c.gyro_bias_noise
    && finite_not_negative c.accel_bias_noise

unfoldable pub finite_bias : ImuBias → Bool
finite_bias b = finite_vector b.gyro && finite_vector b.accel

-- "Making one: 6 for densities, then 2 for biases."
unfoldable pub make_of : ImuBias → ImuCalib → Told PreintegratedImu
make_of b c =
    refuses 6 blank when not (valid_calib c) else
    refuses 2 blank when not (finite_bias b) else
    accepts (fresh b c)

abbrev pub told_made : Result PreintegratedImu Refusal → Told PreintegratedImu
told_made r = told_result row_of blank r

-- ---- finite

-- "any of the reading's seven numbers"
unfoldable pub finite_measurement : ImuMeasurement → Bool
finite_measurement m = finite m.timestamp && finite_vector m.gyro && finite_vector m.accel

unfoldable pub finite_calib : ImuCalib → Bool
finite_calib c = finite c.gyro_noise && finite c.accel_noise && finite c.gyro_bias_noise && finite c.accel_bias_noise

unfoldable pub finite_motion : PreintegratedImu → Bool
finite_motion s = finite_matrix s.delta_rotation && finite_vector s.delta_velocity && finite_vector s.delta_position && finite s.dt

unfoldable pub finite_jacobians : PreintegratedImu → Bool
finite_jacobians s =
    finite_matrix s.d_rotation_d_bias_gyro
    && finite_matrix s.d_velocity_d_bias_gyro
    && finite_matrix s.d_velocity_d_bias_accel
    && finite_matrix s.d_position_d_bias_gyro
    && finite_matrix s.d_position_d_bias_accel

-- "any result field": every field, those that a step leaves alone too
unfoldable pub finite_state : PreintegratedImu → Bool
finite_state s =
    finite_motion s
    && finite_bias s.bias
    && finite_calib s.calib
    && all_finite s.covariance
    && all_finite s.bias_covariance
    && finite_jacobians s

-- ---- the random walk of the biases: what each diagonal entry grows by in some seconds

abbrev pub gyro_walk : ImuCalib → Float → Float
gyro_walk c seconds = c.gyro_bias_noise ⊗ c.gyro_bias_noise ⊗ seconds

abbrev pub accel_walk : ImuCalib → Float → Float
accel_walk c seconds = c.accel_bias_noise ⊗ c.accel_bias_noise ⊗ seconds

unfoldable pub walked : PreintegratedImu → Float → List Float
walked s seconds = diagonal_raised s.bias_covariance (gyro_walk s.calib seconds) (accel_walk s.calib seconds)

abbrev pub with_bias_covariance : PreintegratedImu → List Float → PreintegratedImu
with_bias_covariance s c = record {
  delta_rotation = s.delta_rotation;
  delta_velocity = s.delta_velocity;
  delta_position = s.delta_position;
  dt = s.dt;
  bias = s.bias;
  calib = s.calib;
  covariance = s.covariance;
  bias_covariance = c;
  d_rotation_d_bias_gyro = s.d_rotation_d_bias_gyro;
  d_velocity_d_bias_gyro = s.d_velocity_d_bias_gyro;
  d_velocity_d_bias_accel = s.d_velocity_d_bias_accel;
  d_position_d_bias_gyro = s.d_position_d_bias_gyro;
  d_position_d_bias_accel = s.d_position_d_bias_accel;
}

-- "`widen_bias_walk` changes nothing unless seconds are finite and above 0; a changed entry that is not finite is refused 2."
unfoldable pub widened_of : PreintegratedImu → Float → Told PreintegratedImu
widened_of s seconds =
    accepts s when not (finite_positive seconds) else
    refuses 2 s when not (finite_diagonal (walked s seconds)) else
    accepts (with_bias_covariance s (walked s seconds))

-- of a call that changes the state: what it answers, and the state after it
abbrev pub told_widened : Result (Unit {0}) NumberRefusal → PreintegratedImu → Told PreintegratedImu
told_widened r after = told_after number_row_of r after

abbrev pub told_integrated : Result (Unit {0}) Refusal → PreintegratedImu → Told PreintegratedImu
told_integrated r after = told_after row_of r after
