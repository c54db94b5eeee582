-- 01, Information of wheel factors: the order of its checks, and the thirty-six numbers, column by column.
use Rattle.std.specs.Prelude.{Bool, not, ◌&&◌, List, [], ◌∷◌, replicate, Float, Result}
use Rattle.number.specs.Float.{◌when◌else◌, finite}
use Rattle.number.specs.Constants.{zero as +0}
use Rattle.number.specs.Fit.{finite_positive, inverse_square}
use Rattle.number.specs.Said.{Row, row, Told, told_result, accepts, refuses}
use Rattle.sincos.specs.Turn.{above_four}
use Rattle.mat3.specs.Matrix.{entry, finite_matrix}
use Rattle.planar.specs.Motion.{heading, finite_motion}
use Rattle.planar_information.specs.Block.{invertible, planar_block}
use Rattle.wheel_odom.specs.declared.Refusal.{Refusal}
use Rattle.wheel_odom.specs.declared.Refusal.TheVariants as R
use Rattle.wheel_odom.specs.declared.WheelOdomMeasurement.{WheelOdomMeasurement}
use Rattle.wheel_odom.specs.Measurement.{motion_of}

-- "Order of checks: both sigmas finite and above 0; numbers finite; .." and those on the covariance: "failing any gives 9"
unfoldable pub has_information : WheelOdomMeasurement → Bool
has_information m =
    finite_positive m.z_sigma
    && finite_positive m.tilt_sigma
    && finite_motion (motion_of m)
    && invertible m.covariance

-- The planar block: "its rows and columns sit at 0, 1, 5; 1/z² at 2; 1/tilt² at 3 and 4; the rest is 0."
abbrev pub spread : List Float → Float → Float → List Float
spread p z t =
    entry p 0 0 ∷ entry p 1 0 ∷ +0 ∷ +0 ∷ +0 ∷ entry p 2 0
    ∷ entry p 0 1 ∷ entry p 1 1 ∷ +0 ∷ +0 ∷ +0 ∷ entry p 2 1
    ∷ +0 ∷ +0 ∷ z ∷ +0 ∷ +0 ∷ +0
    ∷ +0 ∷ +0 ∷ +0 ∷ t ∷ +0 ∷ +0
    ∷ +0 ∷ +0 ∷ +0 ∷ +0 ∷ t ∷ +0
    ∷ entry p 0 2 ∷ entry p 1 2 ∷ +0 ∷ +0 ∷ +0 ∷ entry p 2 2
    ∷ []

unfoldable pub information_matrix : WheelOdomMeasurement → List Float
information_matrix m = spread (planar_block (motion_of m)) (inverse_square m.z_sigma) (inverse_square m.tilt_sigma)

-- "if an output is not finite": the zeros are
abbrev pub finite_information : WheelOdomMeasurement → Bool
finite_information m = finite_matrix (planar_block (motion_of m)) && finite (inverse_square m.z_sigma) && finite (inverse_square m.tilt_sigma)

-- "no matrix"
abbrev pub zeros36 : List Float
zeros36 = replicate 36 +0

-- 01, Refusal numbers: 9 NoInformation, 8 AngleRange, 2 NonFinite
abbrev pub row_of : Refusal → Row
row_of R.NoInformation = row 9
row_of R.AngleRange = row 8
row_of R.NonFinite = row 2

abbrev pub told_informed : Result (List Float) Refusal → Told (List Float)
told_informed r = told_result row_of zeros36 r

-- "failing any gives 9. Then 8 for the heading, then 2 if an output is not finite (added)."
unfoldable pub information_of : WheelOdomMeasurement → Told (List Float)
information_of m =
    refuses 9 zeros36 when not (has_information m) else
    refuses 8 zeros36 when above_four (heading (motion_of m)) else
    refuses 2 zeros36 when not (finite_information m) else
    accepts (information_matrix m)
