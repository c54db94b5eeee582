-- What is exactly symmetric passes the test of symmetry, whatever stands on the diagonal: a tolerance is a NaN or has no minus sign, so it is not below 0. Assumes nothing.
use mathlib.Core.Path.{◌≡◌, refl, ap}
use mathlib.Core.Bool.{true, not}
use lib.Ieee as Ieee
use lib.Ieee.{Float, binary64}
use lib.Ieee.Fits.{mul-fits}
use Rattle.number.specs.Float.{◌⊖◌, ◌⊗◌, ◌=ᶠ◌, size}
use Rattle.number.specs.Constants.{c1e-9}
use Rattle.number.specs.Constants.{zero as +0}
use Rattle.root.specs.Root.{sqrt_of}
use Rattle.root.specs.Root.{or_nan}
use Rattle.number.proofs.float.Signs.{unsigned, size_unsigned, product_unsigned, not_below_zero}
use Rattle.number.proofs.float.Sizes.{size_fits}
use Rattle.root.proofs.Laws.{root_unsigned}
use Rattle.planar_information.specs.Block.{near_symmetric}

constant_unsigned : unsigned c1e-9 ≡ true
unfolding Ieee.of_bits
constant_unsigned = refl

pub exactly_symmetric : (cii cij cji cjj : Float) → (size (cij ⊖ cji) =ᶠ +0) ≡ true → near_symmetric cii cij cji cjj ≡ true
unfolding near_symmetric
exactly_symmetric cii cij cji cjj h =
    let product = cii ⊗ cjj in
    let root = root_unsigned (size product) (size_fits product (mul-fits binary64 cii cjj)) (size_unsigned product) in
    ap not (not_below_zero _ (size (cij ⊖ cji)) (product_unsigned c1e-9 (or_nan (sqrt_of (size product))) constant_unsigned root) h)
