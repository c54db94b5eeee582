-- The carts whose kept values are not finite, as the checker works them out. Assumes nothing.
use mathlib.Core.Path.{refl}
use lib.Ieee as Ieee
use Rattle.number.specs.Fit.{finite_positive, finite_not_negative}
use Rattle.drive.specs.Drive.{valid_drive, columns_of, radians_per_tick}
use Rattle.drive.specs.Noise.{valid_noise}
use Rattle.kept.specs.Kept.{rate_noise, kept_of}
use Rattle.kept.specs.Statements.{Statements}

pub statements : Statements
unfolding
    kept_of rate_noise radians_per_tick columns_of valid_drive valid_noise finite_positive finite_not_negative
    Ieee.of_bits Ieee.lt Ieee.le Ieee.eq Ieee.sub Ieee.add Ieee.mul Ieee.div Ieee.neg
statements = record {
  vast_fit = refl;
  noise_fit = refl;
  vast_kept = refl;
  fine_fit = refl;
  slippery_fit = refl;
  fine_kept = refl;
}
