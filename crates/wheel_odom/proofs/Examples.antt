-- Information that the checker works out from the definition: none for diag(−1, −1, 1), and a turned diag(1, 3, 1) that is not exactly symmetric. Assumes nothing.
use mathlib.Core.Path.{◌≡◌, refl}
use mathlib.Core.Bool.{true, false}
use mathlib.Core.List.{[], ◌∷◌}
use lib.Ieee as Ieee
use lib.Ieee.{binary64, of_bits}
use Rattle.number.specs.Constants.{one, c3, c2^-5}
use Rattle.number.specs.Constants.{zero as +0}
use Rattle.number.specs.Fit.{finite_positive}
use Rattle.number.specs.Float.{−◌, ◌=ᶠ◌, size}
use Rattle.root.specs.Root.{sqrt_of, root_of, grains}
use Rattle.number.specs.Said.{gives, refusal}
use Rattle.sincos.specs.Turn.{above_four, turn_of, short_kernel}
use Rattle.mat3.specs.Matrix.{diagonal}
use Rattle.vec3.specs.Vector.{three_finite}
use Rattle.mat3.proofs.Laws.{Symmetric}
use Rattle.planar.specs.Compose.{turn_matrix}
use Rattle.planar.specs.Motion.{finite_motion}
use Rattle.planar_information.specs.Block.{invertible, near_symmetric, near_symmetry, planar_block, positive_determinant}
use Rattle.wheel_odom.specs.declared.WheelOdomMeasurement.{WheelOdomMeasurement}
use Rattle.wheel_odom.specs.Measurement.{motion_of, with_defaults}
use Rattle.wheel_odom.specs.Information.{has_information, information_matrix, information_of}
use Rattle.wheel_odom.proofs.Laws.{at}

-- 01, Examples to prove: "covariance diag(−1,−1,1) gives 9"
abbrev indefinite : WheelOdomMeasurement
indefinite = with_defaults (+0 ∷ +0 ∷ +0 ∷ []) (diagonal (− one) (− one) one)

-- an exactly symmetric covariance, and a heading of 1/32
abbrev turned : WheelOdomMeasurement
turned = with_defaults (+0 ∷ +0 ∷ c2^-5 ∷ []) (diagonal one c3 one)

pub record Examples : Type 0 where
  pub indefinite_refused : (information_of indefinite).outcome ≡ refusal 9
  -- .. though its determinant is above zero
  pub indefinite_determinant : positive_determinant indefinite.covariance ≡ true
  pub turned_symmetric : Symmetric turned.covariance
  pub turned_given : (information_of turned).outcome ≡ gives tt
  -- x and y in one order and in the other: one unit apart in the last place
  pub turned_xy : at (information_of turned).value 0 1 ≡ of_bits binary64 0xbf9551c749f389e7
  pub turned_yx : at (information_of turned).value 1 0 ≡ of_bits binary64 0xbf9551c749f389e6
  pub turned_apart : (at (information_of turned).value 0 1 =ᶠ at (information_of turned).value 1 0) ≡ false

pub examples : Examples
unfolding information_of has_information invertible near_symmetry near_symmetric information_matrix planar_block motion_of finite_motion turn_matrix turn_of short_kernel above_four three_finite finite_positive size sqrt_of root_of grains Ieee.of_bits Ieee.add Ieee.sub Ieee.mul Ieee.div Ieee.neg Ieee.lt Ieee.le Ieee.eq
examples = record {
  indefinite_refused = refl;
  indefinite_determinant = refl;
  turned_symmetric = refl;
  turned_given = refl;
  turned_xy = refl;
  turned_yx = refl;
  turned_apart = refl;
}
