-- 01, Still stretches: "`compose`: 11, then 10 (indices do not meet, or the ends coincide), then 2 for the new span, mean or covered time. Means are
-- weighted by covered seconds, spans add, sigmas take the larger, the first calibration is kept, Huber limits join as for wheel factors."
use Rattle.std.specs.Prelude.{Bool, true, not, ◌&&◌, ◌||◌, eqb, Float, Option, Some, None, Result}
use Rattle.number.specs.Float.{◌⊕◌, ◌⊗◌, ◌⊘◌, ◌when◌else◌, finite, larger}
use Rattle.number.specs.Said.{Row, row, Said, said_result, gives, refusal}
use Rattle.robust.specs.Huber.{joined_of}
use Rattle.stationary.specs.declared.StationaryGyro.{StationaryGyro}
use Rattle.stationary.specs.declared.StationaryFactor.{StationaryFactor}
use Rattle.stationary.specs.declared.Refusal.{Refusal}
use Rattle.stationary.specs.declared.Refusal.TheVariants as R
use Rattle.stationary.specs.Factor.{finite_mean, valid_factor}

-- (a·s + b·t) / (s + t)
abbrev pub weighted : Float → Float → Float → Float → Float
weighted a s b t = (a ⊗ s ⊕ b ⊗ t) ⊘ (s ⊕ t)

unfoldable pub mean_of : StationaryGyro → StationaryGyro → StationaryGyro
mean_of a b = record {
  x = weighted a.x a.covered_s b.x b.covered_s;
  y = weighted a.y a.covered_s b.y b.covered_s;
  z = weighted a.z a.covered_s b.z b.covered_s;
  covered_s = a.covered_s ⊕ b.covered_s;
}

-- the one mean that is there, or the two weighted
abbrev pub joined_gyro : Option StationaryGyro → Option StationaryGyro → Option StationaryGyro
joined_gyro None second = second
joined_gyro (Some a) None = Some a
joined_gyro (Some a) (Some b) = Some (mean_of a b)

unfoldable pub joined_factor : StationaryFactor → StationaryFactor → StationaryFactor
joined_factor a b = record {
  from_idx = a.from_idx;
  to_idx = b.to_idx;
  span_s = a.span_s ⊕ b.span_s;
  gyro = joined_gyro a.gyro b.gyro;
  calib = a.calib;
  translation_sigma_m = larger a.translation_sigma_m b.translation_sigma_m;
  rotation_sigma_rad = larger a.rotation_sigma_rad b.rotation_sigma_rad;
  velocity_sigma_m_s = larger a.velocity_sigma_m_s b.velocity_sigma_m_s;
  huber_chi2 = joined_of a.huber_chi2 b.huber_chi2;
}

abbrev pub finite_gyro : Option StationaryGyro → Bool
finite_gyro None = true
finite_gyro (Some g) = finite_mean g && finite g.covered_s

-- 01, Refusal numbers: 11 InvalidFactor, 10 NotJoined, 2 NonFinite
abbrev pub row_of : Refusal → Row
row_of R.InvalidFactor = row 11
row_of R.NotJoined = row 10
row_of R.NonFinite = row 2

abbrev pub said_joined : Result StationaryFactor Refusal → Said StationaryFactor
said_joined r = said_result row_of r

unfoldable pub compose_of : StationaryFactor → StationaryFactor → Said StationaryFactor
compose_of a b =
    refusal 11 when not (valid_factor a && valid_factor b) else
    refusal 10 when (not (eqb a.to_idx b.from_idx) || eqb a.from_idx b.to_idx) else
    refusal 2 when not (finite (joined_factor a b).span_s && finite_gyro (joined_factor a b).gyro) else
    gives (joined_factor a b)
