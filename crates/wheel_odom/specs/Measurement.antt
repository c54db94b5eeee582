-- 01, Information of wheel factors: the measurement, its default sigmas, its composition.
use Rattle.std.specs.Prelude.{Bool, not, ◌&&◌, ◌||◌, List, Float, Result}
use Rattle.number.specs.Float.{◌⊕◌, ◌⊗◌, ◌when◌else◌, finite}
use Rattle.number.specs.Constants.{c0·01}
use Rattle.number.specs.Constants.{zero as +0}
use Rattle.root.specs.Root.{sqrt_of}
use Rattle.number.specs.Said.{Told, told_result, accepts, refuses}
use Rattle.root.specs.Root.{or_nan}
use Rattle.sincos.specs.declared.Refusal.{Refusal}
use Rattle.sincos.specs.Refusals.{row_of}
use Rattle.sincos.specs.Turn.{above_four}
use Rattle.planar.specs.declared.PlanarMotion.{PlanarMotion}
use Rattle.planar.specs.Motion.{heading, identity, finite_motion}
use Rattle.planar.specs.Compose.{composed}
use Rattle.wheel_odom.specs.declared.WheelOdomMeasurement.{WheelOdomMeasurement}

-- "Default sigmas of the type are 0.01 and 0.01."
abbrev pub with_defaults : List Float → List Float → WheelOdomMeasurement
with_defaults d c = record { delta = d; covariance = c; z_sigma = c0·01; tilt_sigma = c0·01 }

abbrev pub with_sigmas : WheelOdomMeasurement → Float → Float → WheelOdomMeasurement
with_sigmas m z tilt = record { delta = m.delta; covariance = m.covariance; z_sigma = z; tilt_sigma = tilt }

-- the planar part, and a measurement of a planar motion
unfoldable pub motion_of : WheelOdomMeasurement → PlanarMotion
motion_of m = record { delta = m.delta; covariance = m.covariance }

abbrev pub of_motion : PlanarMotion → WheelOdomMeasurement
of_motion p = with_defaults p.delta p.covariance

-- "no matrix": every number +0
abbrev pub blank : WheelOdomMeasurement
blank = with_sigmas (of_motion identity) +0 +0

-- ---- composing

-- "Composed sigmas are the root of a·a+b·b." A root that is refused is no number, and the result's 2 counts it.
abbrev pub joined_sigma : Float → Float → Float
joined_sigma a b = or_nan (sqrt_of (a ⊗ a ⊕ b ⊗ b))

unfoldable pub composed_measurement : WheelOdomMeasurement → WheelOdomMeasurement → WheelOdomMeasurement
composed_measurement a b =
    with_sigmas (of_motion (composed (motion_of a) (motion_of b))) (joined_sigma a.z_sigma b.z_sigma) (joined_sigma a.tilt_sigma b.tilt_sigma)

unfoldable pub finite_measurement : WheelOdomMeasurement → Bool
finite_measurement m = finite_motion (motion_of m) && finite m.z_sigma && finite m.tilt_sigma

abbrev pub told_measurement : Result WheelOdomMeasurement Refusal → Told WheelOdomMeasurement
told_measurement r = told_result row_of blank r

-- "A measurement's composition gives the planar refusals, the sigmas counted only in the result's 2, not in the input's"
unfoldable pub compose_of : WheelOdomMeasurement → WheelOdomMeasurement → Told WheelOdomMeasurement
compose_of a b =
    refuses 2 blank when not (finite_motion (motion_of a) && finite_motion (motion_of b)) else
    refuses 8 blank when (above_four (heading (motion_of a)) || above_four (heading (motion_of b))) else
    refuses 2 blank when not (finite_measurement (composed_measurement a b)) else
    accepts (composed_measurement a b)
