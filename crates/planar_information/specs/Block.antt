-- 01, Information of wheel factors: the checks on the covariance, in its order, and the planar block, column by column.
use Rattle.std.specs.Prelude.{Bool, not, ◌&&◌, List, Float}
use Rattle.number.specs.Float.{◌⊖◌, ◌⊗◌, ◌<ᶠ◌, size}
use Rattle.number.specs.Constants.{c1e-9, zero as +0}
use Rattle.number.specs.Fit.{finite_positive}
use Rattle.root.specs.Root.{or_nan, sqrt_of}
use Rattle.mat3.specs.Matrix.{entry, product, transpose}
use Rattle.inverse3.specs.Inverse.{determinant, inverse}
use Rattle.planar.specs.declared.PlanarMotion.{PlanarMotion}
use Rattle.planar.specs.Motion.{heading}
use Rattle.planar.specs.Compose.{turn_matrix}

-- "asymmetry |cij−cji| not above 1e-9·sqrt(|cii·cjj|)"
unfoldable pub near_symmetric : Float → Float → Float → Float → Bool
near_symmetric cii cij cji cjj = not (c1e-9 ⊗ or_nan (sqrt_of (size (cii ⊗ cjj))) <ᶠ size (cij ⊖ cji))

unfoldable pub near_symmetry : List Float → Bool
near_symmetry c =
    near_symmetric (entry c 0 0) (entry c 0 1) (entry c 1 0) (entry c 1 1)
    && near_symmetric (entry c 0 0) (entry c 0 2) (entry c 2 0) (entry c 2 2)
    && near_symmetric (entry c 1 1) (entry c 1 2) (entry c 2 1) (entry c 2 2)

-- "c00 > 0, c00·c11 − c01·c10 > 0"
abbrev pub positive_minors : List Float → Bool
positive_minors c = +0 <ᶠ entry c 0 0 && +0 <ᶠ entry c 0 0 ⊗ entry c 1 1 ⊖ entry c 0 1 ⊗ entry c 1 0

-- "determinant finite and above 0"
abbrev pub positive_determinant : List Float → Bool
positive_determinant c = finite_positive (determinant c)

unfoldable pub invertible : List Float → Bool
invertible c = near_symmetry c && positive_minors c && positive_determinant c

-- "The planar block is Yᵀ·(inverse)·Y, Y the yaw of the heading."
unfoldable pub planar_block : PlanarMotion → List Float
planar_block m =
    let Y = turn_matrix (heading m) in
    product (product (transpose Y) (inverse m.covariance)) Y
