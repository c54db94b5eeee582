-- 01, The wheel step: "Rate from ticks", "Rate from rates", and "asked for on their own"; 02, W-201: the counter width; W-205: two radii, and with
-- them the twist; W-206: the radians per tick by themselves.
use Rattle.std.specs.Prelude.{ℕ, Bool, not, ◌&&◌, ◌||◌, [], ◌∷◌, eqb, ℤ, Float}
use Rattle.number.specs.Float.{◌⊕◌, ◌⊖◌, ◌⊗◌, ◌⊘◌, −◌, ◌<ᶠ◌, ◌=ᶠ◌, ◌when◌else◌, finite}
use Rattle.number.specs.Constants.{half, c2, TAU}
use Rattle.number.specs.Constants.{zero as +0}
use Rattle.number.specs.Fit.{finite_positive}
use Rattle.number.specs.Said.{Said, gives, refused, refusal}
use Rattle.number.specs.Ticks.{tick_difference}
use Rattle.number.specs.Whole.{whole_to_float}
use Rattle.drive.specs.declared.BodyTwist.{BodyTwist}
use Rattle.drive.specs.declared.DifferentialDrive.{DifferentialDrive}
use Rattle.drive.specs.declared.TwistColumns.{TwistColumns}
use Rattle.drive.specs.declared.WheelRates.{WheelRates}
use Rattle.drive.specs.declared.Reading.{Reading}
use Rattle.drive.specs.declared.Reading.TheVariants.{Ticks, AngularVelocity}

-- 02, W-201: "a counter width of 16, 24, 32 or 64"
abbrev pub is_width : ℕ → Bool
is_width w = eqb w 16 || eqb w 24 || eqb w 32 || eqb w 64

-- 01, Refusal numbers, 7: "radius, track or ticks per turn not finite and above 0"; 02, W-205: "either radius unfit is 7"; W-201: "another width is 7"
unfoldable pub valid_drive : DifferentialDrive → Bool
valid_drive d =
    finite_positive d.left_radius
    && finite_positive d.right_radius
    && finite_positive d.track_width
    && finite_positive d.ticks_per_revolution
    && is_width d.counter_width

-- "no state": every number +0
abbrev pub blank_drive : DifferentialDrive
blank_drive = record { left_radius = +0; right_radius = +0; track_width = +0; ticks_per_revolution = +0; counter_width = 0 }

-- ---- the twist

-- 02, W-205: "vx = 0.5·(rl·left + rr·right), wz = (rr·right − rl·left)/track"; 01: "vy = 0"
unfoldable pub twist_of : DifferentialDrive → WheelRates → BodyTwist
twist_of d w = record {
  vx = half ⊗ (d.left_radius ⊗ w.left ⊕ d.right_radius ⊗ w.right);
  vy = +0;
  wz = (d.right_radius ⊗ w.right ⊖ d.left_radius ⊗ w.left) ⊘ d.track_width;
}

unfoldable pub finite_twist : BodyTwist → Bool
finite_twist v = finite v.vx && finite v.vy && finite v.wz

abbrev pub rates : Float → Float → WheelRates
rates left right = record { left = left; right = right }

-- "Twist and rates asked for on their own: 7, 2 for an input, 3 or 4 for dt where there is one, 2 for the result."
unfoldable pub twist_asked : DifferentialDrive → Float → Float → Said BodyTwist
twist_asked d left right =
    refusal 7 when not (valid_drive d) else
    refusal 2 when not (finite left && finite right) else
    refusal 2 when not (finite_twist (twist_of d (rates left right))) else
    gives (twist_of d (rates left right))

-- ---- its Jacobian, 02, W-205: "the noise columns are (rl/2, 0, −rl/track) and (rr/2, 0, rr/track)"

unfoldable pub columns_of : DifferentialDrive → TwistColumns
columns_of d = record {
  left = record { vx = d.left_radius ⊘ c2; vy = +0; wz = − (d.left_radius ⊘ d.track_width) };
  right = record { vx = d.right_radius ⊘ c2; vy = +0; wz = d.right_radius ⊘ d.track_width };
}

-- its refusals are not in 01: as for the twist, which has two inputs more (docs/DECISIONS.md)
unfoldable pub jacobian_asked : DifferentialDrive → Said TwistColumns
jacobian_asked d =
    refusal 7 when not (valid_drive d) else
    refusal 2 when not (finite_twist (columns_of d).left && finite_twist (columns_of d).right) else
    gives (columns_of d)

-- ---- rates

-- "TAU / ticks per turn": 02, W-206, calls it the radians per tick
unfoldable pub radians_per_tick : DifferentialDrive → Float
radians_per_tick d = TAU ⊘ d.ticks_per_revolution

-- "difference as f64, times (TAU / ticks per turn), divided by dt"
unfoldable pub rate_from_ticks : (per_tick : Float) → ℤ → Float → Float
rate_from_ticks per_tick difference dt = whole_to_float difference ⊗ per_tick ⊘ dt

unfoldable pub rates_from_ticks : (per_tick : Float) → ℤ → ℤ → Float → WheelRates
rates_from_ticks per_tick left right dt = rates (rate_from_ticks per_tick left dt) (rate_from_ticks per_tick right dt)

-- The step from time 0 to time dt: a refusal that carries times carries these.
unfoldable pub rates_asked : DifferentialDrive → ℤ → ℤ → Float → Said WheelRates
rates_asked d left right dt =
    let w = rates_from_ticks (radians_per_tick d) left right dt in
    refusal 7 when not (valid_drive d) else
    refusal 2 when not (finite dt) else
    refused 3 (dt ∷ +0 ∷ []) when dt <ᶠ +0 else
    refused 4 (dt ∷ []) when dt =ᶠ +0 else
    refusal 2 when not (finite w.left && finite w.right) else
    gives w

-- "Rate from rates: 0.5·(old + new)."
unfoldable pub mean_rates : Float → Float → Float → Float → WheelRates
mean_rates left right left' right' = rates (half ⊗ (left ⊕ left')) (half ⊗ (right ⊕ right'))

-- how far a wheel's counter went
abbrev pub counted : DifferentialDrive → ℤ → ℤ → ℤ
counted d from to = tick_difference d.counter_width from to

-- The rates over the time dt from one reading to the next of its kind. Readings of two kinds are refused before their rates are asked for.
abbrev pub rates_between : DifferentialDrive → (per_tick : Float) → Reading → Reading → Float → WheelRates
rates_between d per_tick (Ticks left right) (Ticks left' right') dt = rates_from_ticks per_tick (counted d left left') (counted d right right') dt
rates_between d per_tick (AngularVelocity left right) (AngularVelocity left' right') dt = mean_rates left right left' right'
rates_between d per_tick (Ticks left right) (AngularVelocity left' right') dt = rates +0 +0
rates_between d per_tick (AngularVelocity left right) (Ticks left' right') dt = rates +0 +0
