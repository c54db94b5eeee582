-- A join of two valid factors may itself be invalid: the first has no mean rate and gyro noise 0, the second a mean rate and gyro noise 1. The join keeps
-- the first calibration, under which the mean rate has no weight. It is not refused, as in the Rust. The checker computes it. Assumes nothing.
use mathlib.Core.Path.{◌≡◌, refl}
use mathlib.Core.Bool.{true, false}
use lib.Ieee as Ieee
use lib.Ieee.{Float}
use Rattle.number.specs.Float.{larger}
use Rattle.number.specs.Fit.{finite_positive}
use Rattle.number.specs.Constants.{zero, half, one, c2}
use Rattle.number.specs.Said.{gives}
use Rattle.robust.specs.Huber.{tighter}
use Rattle.inertial.specs.declared.ImuCalib.{ImuCalib}
use Rattle.stationary.specs.declared.StationaryFactor.{StationaryFactor}
use Rattle.stationary.specs.declared.StationaryGyro.{StationaryGyro}
use Rattle.stationary.specs.Factor.{factor_of, with_gyro, finite_mean, valid_factor, valid_sigmas, valid_walk}
use Rattle.stationary.specs.Join.{compose_of, joined_factor}

abbrev pub noisy : Float → ImuCalib
noisy noise = record { gyro_noise = noise; accel_noise = one; gyro_bias_noise = one; accel_bias_noise = one }

abbrev pub rate : StationaryGyro
rate = record { x = half; y = half; z = half; covered_s = one }

abbrev pub first : StationaryFactor
first = factor_of 0 1 one (noisy zero)

abbrev pub second : StationaryFactor
second = with_gyro (factor_of 1 2 one (noisy one)) rate

abbrev pub joined : StationaryFactor
joined = with_gyro (factor_of 0 2 c2 (noisy zero)) rate

pub record InvalidJoin : Type 0 where
  pub first_valid : valid_factor first ≡ true
  pub second_valid : valid_factor second ≡ true
  pub composition_given : compose_of first second ≡ gives joined
  pub join_invalid : valid_factor joined ≡ false

pub invalid_join : InvalidJoin
unfolding Ieee.of_bits Ieee.add Ieee.lt Ieee.is_nan finite_positive finite_mean valid_factor valid_sigmas valid_walk larger tighter compose_of joined_factor
invalid_join = record { first_valid = refl; second_valid = refl; composition_given = refl; join_invalid = refl }
