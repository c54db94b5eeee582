-- What 01 states of a composed motion, as one record. It is proved in proofs/Statements.antt.
use Rattle.std.specs.Prelude.{◌≡◌, true}
use Rattle.number.specs.Float.{size, −◌, ◌≤ᶠ◌}
use Rattle.number.specs.Constants.{c4, PI}
use Rattle.mat3.specs.Matrix.{transpose}
use Rattle.planar.specs.declared.PlanarMotion.{PlanarMotion}
use Rattle.planar.specs.Motion.{heading}
use Rattle.planar.specs.Compose.{composed}

pub record Statements : Type 0 where
  -- "the covariance is exactly symmetric", whatever the two motions hold
  pub composed_symmetric : (a b : PlanarMotion) → transpose (composed a b).covariance ≡ (composed a b).covariance
  -- "The heading sum S is kept when −PI ≤ S ≤ PI, else TAU is taken off or added once": of headings that are not refused 8 it ends within half a turn
  pub composed_heading : (a b : PlanarMotion) → (size (heading a) ≤ᶠ c4) ≡ true → (size (heading b) ≤ᶠ c4) ≡ true
      → ((− PI ≤ᶠ heading (composed a b)) ≡ true) × ((heading (composed a b) ≤ᶠ PI) ≡ true)
