-- 01, The wheel step: "Rate noise: J·Jᵀ times wheel_rate², plus diag(0, lateral², 0); J has columns .., 0. A square is x·x."
-- 02, W-205: "the noise columns are (rl/2, 0, −rl/track) and (rr/2, 0, rr/track)". 02, W-206: "The rate noise matrix and the radians per tick depend only on
-- drive and noise .. Keep both in the integrator."
use Rattle.std.specs.Prelude.{List, Float}
use Rattle.number.specs.Float.{◌⊗◌}
use Rattle.number.specs.Constants.{zero as +0}
use Rattle.mat3.specs.Matrix.{rows, zeros, diagonal, product, transpose, sum, scaled}
use Rattle.drive.specs.declared.DifferentialDrive.{DifferentialDrive}
use Rattle.drive.specs.declared.TwistColumns.{TwistColumns}
use Rattle.drive.specs.declared.WheelNoise.{WheelNoise}
use Rattle.drive.specs.Drive.{columns_of, radians_per_tick}
use Rattle.kept.specs.declared.KeptValues.{KeptValues}

-- the two columns of the twist's Jacobian, and a third of zeros
abbrev pub beside_zero : TwistColumns → List Float
beside_zero c = rows
    c.left.vx c.right.vx +0
    c.left.vy c.right.vy +0
    c.left.wz c.right.wz +0

abbrev pub square : Float → Float
square x = x ⊗ x

unfoldable pub rate_noise : DifferentialDrive → WheelNoise → List Float
rate_noise d n =
    let J = beside_zero (columns_of d) in
    sum (scaled (product J (transpose J)) (square n.wheel_rate)) (diagonal +0 (square n.lateral_velocity) +0)

-- the values "worked out afresh"
unfoldable pub kept_of : DifferentialDrive → WheelNoise → KeptValues
kept_of d n = record { rate_noise = rate_noise d n; radians_per_tick = radians_per_tick d }

-- "no state": every number +0
abbrev pub blank_kept : KeptValues
blank_kept = record { rate_noise = zeros; radians_per_tick = +0 }
