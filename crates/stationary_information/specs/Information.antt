-- 01, Still stretches: "`information`: 11, then 2." Every block is diagonal.
use Rattle.std.specs.Prelude.{ℕ, ◌+◌, ◌*◌, Bool, true, not, ◌&&◌, List, [], ◌∷◌, replicate, get_or, Float, Option, Some, None, Result}
use Rattle.std.specs.Float.{nan}
use Rattle.number.specs.Float.{◌⊕◌, ◌⊗◌, ◌⊘◌, ◌when◌else◌, finite}
use Rattle.number.specs.Constants.{one, c12, zero as +0}
use Rattle.number.specs.Fit.{inverse_square}
use Rattle.number.specs.Said.{Row, row, Told, told_result, accepts, refuses}
use Rattle.stationary.specs.declared.StationaryGyro.{StationaryGyro}
use Rattle.stationary.specs.declared.StationaryFactor.{StationaryFactor}
use Rattle.stationary_information.specs.declared.GyroRow.{GyroRow}
use Rattle.stationary_information.specs.declared.Refusal.{Refusal}
use Rattle.stationary_information.specs.declared.Refusal.TheVariants as R
use Rattle.stationary_information.specs.declared.StationaryInfo.{StationaryInfo}
use Rattle.stationary.specs.Factor.{valid_factor, finite_mean}

-- t three times, then r three times, on the diagonal of thirty-six numbers
abbrev pub pose_diagonal : Float → Float → List Float
pose_diagonal t r =
    t ∷ +0 ∷ +0 ∷ +0 ∷ +0 ∷ +0
    ∷ +0 ∷ t ∷ +0 ∷ +0 ∷ +0 ∷ +0
    ∷ +0 ∷ +0 ∷ t ∷ +0 ∷ +0 ∷ +0
    ∷ +0 ∷ +0 ∷ +0 ∷ r ∷ +0 ∷ +0
    ∷ +0 ∷ +0 ∷ +0 ∷ +0 ∷ r ∷ +0
    ∷ +0 ∷ +0 ∷ +0 ∷ +0 ∷ +0 ∷ r
    ∷ []

-- the variance of a random walk over the span: density² · span
abbrev pub walk : Float → Float → Float
walk density span = density ⊗ density ⊗ span

-- the mean of so many seconds of white noise, and the bridge between the bias's average over time and that of its ends
abbrev pub row_of : StationaryFactor → StationaryGyro → Float
row_of f g = one ⊘ (f.calib.gyro_noise ⊗ f.calib.gyro_noise ⊘ g.covered_s ⊕ walk f.calib.gyro_bias_noise f.span_s ⊘ c12)

abbrev pub gyro_row : StationaryFactor → Option StationaryGyro → Option GyroRow
gyro_row f None = None
gyro_row f (Some g) = Some (record { mean = g; information = row_of f g })

unfoldable pub info_of : StationaryFactor → StationaryInfo
info_of f = record {
  pose = pose_diagonal (inverse_square f.translation_sigma_m) (inverse_square f.rotation_sigma_rad);
  velocity = inverse_square f.velocity_sigma_m_s;
  gyro_bias = one ⊘ walk f.calib.gyro_bias_noise f.span_s;
  accel_bias = one ⊘ walk f.calib.accel_bias_noise f.span_s;
  gyro_mean = gyro_row f f.gyro;
}

abbrev pub finite_row : Option GyroRow → Bool
finite_row None = true
finite_row (Some r) = finite_mean r.mean && finite r.information

-- on the diagonal of the pose's six rows and columns
abbrev pub pose_at : StationaryInfo → ℕ → Float
pose_at i k = get_or i.pose (k + k * 6) nan

-- Every number that is not a written zero: of the pose, the two that its diagonal repeats, the translation's at 0, 1, 2 and the rotation's at 3, 4, 5.
unfoldable pub finite_info : StationaryInfo → Bool
finite_info i =
    finite (pose_at i 0)
    && finite (pose_at i 3)
    && finite i.velocity
    && finite i.gyro_bias
    && finite i.accel_bias
    && finite_row i.gyro_mean

abbrev pub blank_info : StationaryInfo
blank_info = record { pose = replicate 36 +0; velocity = +0; gyro_bias = +0; accel_bias = +0; gyro_mean = None }

-- 01, Refusal numbers: 11 InvalidFactor, 2 NonFinite
abbrev pub refusal_row : Refusal → Row
refusal_row R.InvalidFactor = row 11
refusal_row R.NonFinite = row 2

abbrev pub told_informed : Result StationaryInfo Refusal → Told StationaryInfo
told_informed r = told_result refusal_row blank_info r

unfoldable pub information_of : StationaryFactor → Told StationaryInfo
information_of f =
    refuses 11 blank_info when not (valid_factor f) else
    refuses 2 blank_info when not (finite_info (info_of f)) else
    accepts (info_of f)
