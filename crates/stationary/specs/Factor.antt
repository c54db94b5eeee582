-- 01, Still stretches: "`is_valid` as in stationary.rs. A stretch is still when its caller says so."
use Rattle.std.specs.Prelude.{ℕ, Bool, true, not, ◌&&◌, eqb, Float, Option, Some, None}
use Rattle.number.specs.Float.{finite}
use Rattle.number.specs.Fit.{finite_positive}
use Rattle.number.specs.Constants.{c0·01, c0·002, c21·03}
use Rattle.robust.specs.Huber.{valid_huber}
use Rattle.inertial.specs.declared.ImuCalib.{ImuCalib}
use Rattle.stationary.specs.declared.StationaryGyro.{StationaryGyro}
use Rattle.stationary.specs.declared.StationaryFactor.{StationaryFactor}

-- the default sigmas 0.002, 0.002 and 0.01, the default limit 21.03 and no gyro mean
abbrev pub factor_of : ℕ → ℕ → Float → ImuCalib → StationaryFactor
factor_of from to span calib = record {
  from_idx = from;
  to_idx = to;
  span_s = span;
  gyro = None;
  calib = calib;
  translation_sigma_m = c0·002;
  rotation_sigma_rad = c0·002;
  velocity_sigma_m_s = c0·01;
  huber_chi2 = Some c21·03;
}

abbrev pub with_gyro : StationaryFactor → StationaryGyro → StationaryFactor
with_gyro f g = record {
  from_idx = f.from_idx;
  to_idx = f.to_idx;
  span_s = f.span_s;
  gyro = Some g;
  calib = f.calib;
  translation_sigma_m = f.translation_sigma_m;
  rotation_sigma_rad = f.rotation_sigma_rad;
  velocity_sigma_m_s = f.velocity_sigma_m_s;
  huber_chi2 = f.huber_chi2;
}

unfoldable pub finite_mean : StationaryGyro → Bool
finite_mean g = finite g.x && finite g.y && finite g.z

-- "a finite gyro mean over a positive time (with a positive gyro noise density)", if there is one
abbrev pub valid_gyro : Option StationaryGyro → Float → Bool
valid_gyro None noise = true
valid_gyro (Some g) noise = finite_positive g.covered_s && finite_positive noise && finite_mean g

unfoldable pub valid_sigmas : StationaryFactor → Bool
valid_sigmas f = finite_positive f.translation_sigma_m && finite_positive f.rotation_sigma_rad && finite_positive f.velocity_sigma_m_s

unfoldable pub valid_walk : ImuCalib → Bool
valid_walk c = finite_positive c.gyro_bias_noise && finite_positive c.accel_bias_noise

-- "two distinct keyframes, a positive finite span, sigmas and bias densities, a positive Huber threshold if any, and a finite gyro mean over a
-- positive time"
unfoldable pub valid_factor : StationaryFactor → Bool
valid_factor f =
    not (eqb f.from_idx f.to_idx)
    && finite_positive f.span_s
    && valid_sigmas f
    && valid_walk f.calib
    && valid_huber f.huber_chi2
    && valid_gyro f.gyro f.calib.gyro_noise
