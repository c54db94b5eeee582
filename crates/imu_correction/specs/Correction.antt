-- 01, Inertial accumulation: the deltas at another bias, to first order, and the prediction.
use Rattle.std.specs.Prelude.{Result, Bool, not, ◌&&◌, List, Float}
use Rattle.number.specs.Float.{◌when◌else◌, finite}
use Rattle.number.specs.Said.{Told, accepts, refuses, told_result}
use Rattle.number.specs.declared.refusal.Refusal.{Refusal}
use Rattle.number.specs.Refusals.{row_of}
use Rattle.sincos.specs.declared.Refusal.{Refusal as TurnRefusal}
use Rattle.sincos.specs.Refusals.{row_of as row_of_turn}
use Rattle.sincos.specs.Turn.{above_four}
use Rattle.mat3.specs.Matrix.{zeros, product, transform, finite_matrix}
use Rattle.vec3.specs.Vector.{zero_vector, vector_sum, vector_difference, vector_scaled, finite_vector}
use Rattle.inertial.specs.declared.ImuBias.{ImuBias}
use Rattle.imu.specs.declared.PreintegratedImu.{PreintegratedImu}
use Rattle.imu_step.specs.declared.Motion.{Motion}
use Rattle.imu.specs.State.{finite_bias}
use Rattle.rotation.specs.Rotation.{increment_of}
use Rattle.imu_step.specs.Parts.{half_square}

-- ---- corrections: "2 for an argument (the stored state is not tested), 8 for a correction angle above 4, 2 for the result"

-- how far the bias is from the one used
unfoldable pub gyro_change : PreintegratedImu → ImuBias → List Float
gyro_change s b = vector_difference b.gyro s.bias.gyro

unfoldable pub accel_change : PreintegratedImu → ImuBias → List Float
accel_change s b = vector_difference b.accel s.bias.accel

-- ∂ΔR/∂bg · δbg
unfoldable pub correction_turn : PreintegratedImu → ImuBias → List Float
correction_turn s b = transform s.d_rotation_d_bias_gyro (gyro_change s b)

-- ΔR · Exp(∂ΔR/∂bg · δbg)
unfoldable pub rotation_with : PreintegratedImu → ImuBias → List Float
rotation_with s b = product s.delta_rotation (increment_of (correction_turn s b)).exp

unfoldable pub rotation_with_bias : PreintegratedImu → ImuBias → Told (List Float)
rotation_with_bias s b =
    let θ = (increment_of (correction_turn s b)).angle in
    refuses 2 zeros when not (finite_bias b) else
    refuses 8 zeros when above_four θ else
    refuses 2 zeros when not (finite θ && finite_matrix (rotation_with s b)) else
    accepts (rotation_with s b)

-- x + ∂x/∂bg · δbg + ∂x/∂ba · δba
unfoldable pub vector_with : List Float → List Float → List Float → List Float → List Float → List Float
vector_with x by_gyro by_accel δbg δba = vector_sum (vector_sum x (transform by_gyro δbg)) (transform by_accel δba)

unfoldable pub velocity_with : PreintegratedImu → ImuBias → List Float
velocity_with s b = vector_with s.delta_velocity s.d_velocity_d_bias_gyro s.d_velocity_d_bias_accel (gyro_change s b) (accel_change s b)

unfoldable pub position_with : PreintegratedImu → ImuBias → List Float
position_with s b = vector_with s.delta_position s.d_position_d_bias_gyro s.d_position_d_bias_accel (gyro_change s b) (accel_change s b)

unfoldable pub corrected_of : ImuBias → List Float → Told (List Float)
corrected_of b x =
    refuses 2 zero_vector when not (finite_bias b) else
    refuses 2 zero_vector when not (finite_vector x) else
    accepts x

abbrev pub told_rotation : Result (List Float) TurnRefusal → Told (List Float)
told_rotation r = told_result row_of_turn zeros r

abbrev pub told_vector : Result (List Float) Refusal → Told (List Float)
told_vector r = told_result row_of zero_vector r

-- ---- prediction: "2 for an argument, 2 for the result"

-- R_k · ΔR, v_k + g·dt + R_k · Δv, p_k + v_k·dt + ½·g·dt² + R_k · Δp
unfoldable pub predicted_state : PreintegratedImu → (r v p g : List Float) → Motion
predicted_state s r v p g = record {
  rotation = product r s.delta_rotation;
  velocity = vector_sum (vector_sum v (vector_scaled g s.dt)) (transform r s.delta_velocity);
  position = vector_sum (vector_sum (vector_sum p (vector_scaled v s.dt)) (vector_scaled g (half_square s.dt))) (transform r s.delta_position);
}

unfoldable pub finite_prediction : Motion → Bool
finite_prediction q = finite_matrix q.rotation && finite_vector q.velocity && finite_vector q.position

abbrev pub no_prediction : Motion
no_prediction = record { rotation = zeros; velocity = zero_vector; position = zero_vector }

unfoldable pub predict_of : PreintegratedImu → (r v p g : List Float) → Told Motion
predict_of s r v p g =
    refuses 2 no_prediction when not (finite_matrix r && finite_vector v && finite_vector p && finite_vector g) else
    refuses 2 no_prediction when not (finite_prediction (predicted_state s r v p g)) else
    accepts (predicted_state s r v p g)

abbrev pub told_predicted : Result Motion Refusal → Told Motion
told_predicted r = told_result row_of no_prediction r
