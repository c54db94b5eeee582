-- How far the information of an exactly symmetric covariance is symmetric: but for the rounding of one pair of entries. Assumes nothing.
use Rattle.std.proofs.Common.{◌≡◌, refl, subst, arith}
use Prim.Native.Nat.{ℕ, ◌+◌, ◌*◌}
use mathlib.Core.Bool.{true}
use mathlib.Core.List.{List, [], ◌∷◌}
use lib.ListN.{get_or}
use lib.Ieee.{Float, nan, binary64}
use lib.Ieee.Fits.{mul-fits}
use Rattle.number.specs.Float.{◌=ᶠ◌}
use Rattle.number.specs.Said.{gives}
use Rattle.mat3.specs.Matrix.{finite_matrix}
use Rattle.inverse3.specs.Inverse.{inverse}
use Rattle.mat3.proofs.Laws.{Symmetric}
use Rattle.inverse3.proofs.Laws.{inverse_symmetric}
use Rattle.planar.specs.Compose.{turn_matrix}
use Rattle.planar_information.specs.Block.{planar_block}
use Rattle.wheel_odom.specs.declared.WheelOdomMeasurement.{WheelOdomMeasurement}
use Rattle.wheel_odom.specs.Measurement.{motion_of}
use Rattle.wheel_odom.specs.Information.{information_matrix, information_of}
use Rattle.planar_information.proofs.Corner.{heading_across}

-- what stands in row i and column j of the thirty-six, a row and a column
abbrev pub at : List Float → ℕ → ℕ → Float
at m i j = get_or m (i + 6 * j) nan

abbrev pub row : List Float → ℕ → List Float
row m i = at m i 0 ∷ at m i 1 ∷ at m i 2 ∷ at m i 3 ∷ at m i 4 ∷ at m i 5 ∷ []

abbrev pub column : List Float → ℕ → List Float
column m j = at m 0 j ∷ at m 1 j ∷ at m 2 j ∷ at m 3 j ∷ at m 4 j ∷ at m 5 j ∷ []

-- All but the pair of x and y, which rounding may set apart (proofs/Examples.antt). The two pairs of the yaw are equal as numbers.
pub record SymmetricButXY (m : List Float) : Type 0 where
  pub z : row m 2 ≡ column m 2
  pub roll : row m 3 ≡ column m 3
  pub pitch : row m 4 ≡ column m 4
  pub x_yaw : (at m 0 5 =ᶠ at m 5 0) ≡ true
  pub y_yaw : (at m 1 5 =ᶠ at m 5 1) ≡ true

pub information_symmetric : (m : WheelOdomMeasurement) → Symmetric m.covariance → (information_of m).outcome ≡ gives tt → SymmetricButXY (information_of m).value
unfolding information_of information_matrix planar_block turn_matrix motion_of
information_symmetric m s e =
    let given : information_matrix m ≡ (information_of m).value = grind arith in
    let block_finite : finite_matrix (planar_block (motion_of m)) ≡ true = grind arith in
    let across = heading_across _ _ (inverse m.covariance) (inverse_symmetric m.covariance s) (mul-fits binary64 _ _) (mul-fits binary64 _ _) block_finite in
    subst SymmetricButXY given (record { z = refl; roll = refl; pitch = refl; x_yaw = across.x_heading; y_yaw = across.y_heading })
