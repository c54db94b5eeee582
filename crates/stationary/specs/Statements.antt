-- What 01 states of two still factors that are joined, as one record. It is proved in proofs/Statements.antt.
use Rattle.std.specs.Prelude.{◌≡◌, ◌⊎◌, true, Float}
use Rattle.number.specs.Float.{◌⊕◌, ◌≤ᶠ◌, finite}
use Rattle.number.specs.Fit.{finite_positive}
use Rattle.number.specs.Said.{gives}
use Rattle.robust.specs.Huber.{joined_of}
use Rattle.stationary.specs.declared.StationaryFactor.{StationaryFactor}
use Rattle.stationary.specs.Factor.{valid_factor}
use Rattle.stationary.specs.Join.{compose_of, finite_gyro, joined_gyro}

-- "sigmas take the larger": of two sigmas, finite and above 0
pub record Looser (first second sigma : Float) : Type 0 where
  pub fit : finite_positive sigma ≡ true
  pub one_of_two : (sigma ≡ first) ⊎ (sigma ≡ second)
  pub first_within : (first ≤ᶠ sigma) ≡ true
  pub second_within : (second ≤ᶠ sigma) ≡ true

-- what a composition that is given says of the two factors and of itself: "spans add, sigmas take the larger, the first calibration is kept, Huber limits join as for
-- wheel factors"; how means join is `joined_gyro`
pub record Joins (a b f : StationaryFactor) : Type 0 where
  pub first_valid : valid_factor a ≡ true
  pub second_valid : valid_factor b ≡ true
  pub meet : a.to_idx ≡ b.from_idx
  pub first_start_kept : f.from_idx ≡ a.from_idx
  pub last_end_kept : f.to_idx ≡ b.to_idx
  pub ends_apart : f.from_idx ≡ f.to_idx → ⊥
  pub spans_add : f.span_s ≡ a.span_s ⊕ b.span_s
  pub span_finite : finite f.span_s ≡ true
  pub gyro_joined : f.gyro ≡ joined_gyro a.gyro b.gyro
  pub gyro_finite : finite_gyro f.gyro ≡ true
  pub first_calibration_kept : f.calib ≡ a.calib
  pub limits_joined : f.huber_chi2 ≡ joined_of a.huber_chi2 b.huber_chi2
  pub translation_looser : Looser a.translation_sigma_m b.translation_sigma_m f.translation_sigma_m
  pub rotation_looser : Looser a.rotation_sigma_rad b.rotation_sigma_rad f.rotation_sigma_rad
  pub velocity_looser : Looser a.velocity_sigma_m_s b.velocity_sigma_m_s f.velocity_sigma_m_s

pub record Statements : Type 0 where
  pub composition_joins : (a b f : StationaryFactor) → compose_of a b ≡ gives f → Joins a b f
