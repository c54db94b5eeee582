-- 01, Information of wheel factors: the factor. `is_valid` follows the file.
use Rattle.std.specs.Prelude.{ℕ, Bool, true, false, not, ◌&&◌, [], ◌∷◌, eqb, Float, Option, None, Result}
use Rattle.number.specs.Float.{◌when◌else◌}
use Rattle.number.specs.Constants.{zero as +0}
use Rattle.number.specs.Said.{Row, row, Said, gives, refused, Told, told, told_result, accepts, refuses}
use Rattle.mat3.specs.Matrix.{zeros, finite_matrix}
use Rattle.vec3.specs.Vector.{finite_vector}
use Rattle.robust.specs.Huber.{valid_huber, joined_of}
use Rattle.sincos.specs.declared.Refusal.{Refusal as Measuring}
use Rattle.sincos.specs.declared.Refusal.TheVariants as M
use Rattle.wheel_odom.specs.declared.WheelOdomMeasurement.{WheelOdomMeasurement}
use Rattle.wheel_odom.specs.Measurement.{blank, compose_of}
use Rattle.wheel_odom.specs.Information.{information_of}
use Rattle.wheel_factor.specs.declared.Extrinsic.{Extrinsic}
use Rattle.wheel_factor.specs.declared.WheelOdomFactor.{WheelOdomFactor}
use Rattle.wheel_factor.specs.declared.Refusal.{Refusal}
use Rattle.wheel_factor.specs.declared.Refusal.TheVariants as R

abbrev pub factor_of : ℕ → ℕ → WheelOdomMeasurement → Extrinsic → Extrinsic → Option Float → WheelOdomFactor
factor_of from to m first last huber = record { from_idx = from; to_idx = to; measurement = m; t_cb_from = first; t_cb_to = last; huber_chi2 = huber }

abbrev pub finite_extrinsic : Extrinsic → Bool
finite_extrinsic t = finite_matrix t.rotation && finite_vector t.translation

abbrev pub is_given : {A : Type 0} → Said A → Bool
is_given (gives v) = true
is_given (refused n values) = false

-- "it links two distinct keyframes, the measurement has an information matrix, both extrinsics are finite and the Huber threshold, if any, is finite
-- and positive", and 01: "false wherever `information` refuses"
unfoldable pub valid_factor : WheelOdomFactor → Bool
valid_factor f =
    not (eqb f.from_idx f.to_idx)
    && valid_huber f.huber_chi2
    && finite_extrinsic f.t_cb_from
    && finite_extrinsic f.t_cb_to
    && is_given (information_of f.measurement).outcome

abbrev pub no_extrinsic : Extrinsic
no_extrinsic = record { rotation = zeros; translation = +0 ∷ +0 ∷ +0 ∷ [] }

-- where there is no factor: every number 0 and no limit
abbrev pub blank_factor : WheelOdomFactor
blank_factor = record { from_idx = 0; to_idx = 0; measurement = blank; t_cb_from = no_extrinsic; t_cb_to = no_extrinsic; huber_chi2 = None }

-- from the first's start to the second's end
abbrev pub joined_factor : WheelOdomFactor → WheelOdomFactor → WheelOdomMeasurement → WheelOdomFactor
joined_factor a b m = record {
  from_idx = a.from_idx;
  to_idx = b.to_idx;
  measurement = m;
  t_cb_from = a.t_cb_from;
  t_cb_to = b.t_cb_to;
  huber_chi2 = joined_of a.huber_chi2 b.huber_chi2;
}

abbrev pub by_measurement : WheelOdomFactor → WheelOdomFactor → Told WheelOdomMeasurement → Said (Unit {0}) → Told WheelOdomFactor
by_measurement a b t (gives u) = accepts (joined_factor a b t.value)
by_measurement a b t (refused n values) = told (refused n values) blank_factor

-- 01, Refusal numbers: 10 NotJoined, 2 NonFinite, 8 AngleRange
abbrev pub row_of : Refusal → Row
row_of R.NotJoined = row 10
row_of R.NonFinite = row 2
row_of R.AngleRange = row 8

-- what the measurements' refusal is as the factors'
abbrev pub of_measurement : Measuring → Refusal
of_measurement M.NonFinite = R.NonFinite
of_measurement M.AngleRange = R.AngleRange

abbrev pub told_factor : Result WheelOdomFactor Refusal → Told WheelOdomFactor
told_factor r = told_result row_of blank_factor r

-- "a factor's gives 10 first, when the indices do not meet", then the measurement's refusals
unfoldable pub compose_factor_of : WheelOdomFactor → WheelOdomFactor → Told WheelOdomFactor
compose_factor_of a b =
    refuses 10 blank_factor when not (eqb a.to_idx b.from_idx) else
    by_measurement a b (compose_of a.measurement b.measurement) (compose_of a.measurement b.measurement).outcome
