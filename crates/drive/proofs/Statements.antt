-- What equal radii leave as 01 has it: the columns by one radius for the other, the yaw rate since a product less itself is +0. Assumes nothing.
use mathlib.Core.Path.{◌≡◌, sym}
use mathlib.Core.Bool.{true}
use lib.Ieee.{Float}
use Rattle.number.specs.Float.{◌⊗◌, ◌<ᶠ◌, finite}
use Rattle.number.specs.Constants.{zero as +0}
use Rattle.number.specs.Fit.{finite_positive}
use Rattle.number.proofs.float.Difference.{less_itself, zero_over}
use Rattle.number.proofs.float.PlusZero.{both}
use Rattle.drive.specs.declared.DifferentialDrive.{DifferentialDrive}
use Rattle.drive.specs.Drive.{twist_of, columns_of, rates}
use Rattle.drive.specs.Statements.{Statements, Alike, columns_of_one}

columns_alike : (d : DifferentialDrive) → Alike d → columns_of d ≡ columns_of_one d.left_radius d.track_width
unfolding columns_of
columns_alike d e = rw (sym e)

straight : (d : DifferentialDrive) (w : Float) → Alike d → finite_positive d.track_width ≡ true → finite (d.left_radius ⊗ w) ≡ true
    → (twist_of d (rates w w)).wz ≡ +0
unfolding twist_of finite_positive
straight d w e t p =
    let fit = both (finite d.track_width) (+0 <ᶠ d.track_width) t in
    rw (sym e, less_itself (d.left_radius ⊗ w) p) (zero_over d.track_width fit.1 fit.0)

pub statements : Statements
statements = record { columns_alike = columns_alike; straight = straight }
