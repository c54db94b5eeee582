-- 02, W-205: "Equal radii need not reproduce the old last bits." What they do reproduce, as one record. It is proved in proofs/Statements.antt.
use Rattle.std.specs.Prelude.{◌≡◌, true, Float}
use Rattle.number.specs.Float.{◌⊗◌, ◌⊘◌, −◌, finite}
use Rattle.number.specs.Constants.{c2}
use Rattle.number.specs.Constants.{zero as +0}
use Rattle.number.specs.Fit.{finite_positive}
use Rattle.drive.specs.declared.DifferentialDrive.{DifferentialDrive}
use Rattle.drive.specs.declared.TwistColumns.{TwistColumns}
use Rattle.drive.specs.Drive.{twist_of, columns_of, rates}

-- both wheels of one radius
abbrev pub Alike : DifferentialDrive → Type 0
Alike d = d.left_radius ≡ d.right_radius

-- 01: "J has columns (r/2, 0, −r/track), (r/2, 0, r/track)"
abbrev pub columns_of_one : (r track : Float) → TwistColumns
columns_of_one r track = record {
  left = record { vx = r ⊘ c2; vy = +0; wz = − (r ⊘ track) };
  right = record { vx = r ⊘ c2; vy = +0; wz = r ⊘ track };
}

pub record Statements : Type 0 where
  -- the columns are 01's, to the bit, and so is the rate noise, which is worked out from them
  pub columns_alike : (d : DifferentialDrive) → Alike d → columns_of d ≡ columns_of_one d.left_radius d.track_width
  -- wheels that are alike and go alike do not turn the cart: the yaw rate is +0
  pub straight : (d : DifferentialDrive) (w : Float) → Alike d → finite_positive d.track_width ≡ true → finite (d.left_radius ⊗ w) ≡ true
      → (twist_of d (rates w w)).wz ≡ +0
