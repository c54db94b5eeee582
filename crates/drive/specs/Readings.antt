-- 01, The wheel step: "A reading holds a time, a valid flag and two tick counts (i64) or two angular velocities."
use Rattle.std.specs.Prelude.{Bool, true, false, ◌&&◌, ℕ, Float, ℤ}
use Rattle.number.specs.Float.{finite}
use Rattle.number.specs.Ticks.{tick_in_range}
use Rattle.drive.specs.declared.Reading.{Reading}
use Rattle.drive.specs.declared.Reading.TheVariants.{Ticks, AngularVelocity}
use Rattle.drive.specs.declared.WheelMeasurement.{WheelMeasurement}

abbrev pub ticks_at : Float → ℤ → ℤ → WheelMeasurement
ticks_at time left right = record { timestamp = time; reading = Ticks left right; valid = true }

abbrev pub rates_at : Float → Float → Float → WheelMeasurement
rates_at time left right = record { timestamp = time; reading = AngularVelocity left right; valid = true }

-- "2 for time or rates"
abbrev pub finite_reading : Reading → Bool
finite_reading (Ticks left right) = true
finite_reading (AngularVelocity left right) = finite left && finite right

unfoldable pub finite_measurement : WheelMeasurement → Bool
finite_measurement m = finite m.timestamp && finite_reading m.reading

-- 02, W-201: "Below 64 a tick must lie in 0 to 2^width−1"; rates have no ticks
abbrev pub in_range : (width : ℕ) → Reading → Bool
in_range width (Ticks left right) = tick_in_range width left && tick_in_range width right
in_range width (AngularVelocity left right) = true

-- 01, Refusal numbers, 5: "ticks after rates, or rates after ticks"
abbrev pub same_kind : Reading → Reading → Bool
same_kind (Ticks left right) (Ticks left' right') = true
same_kind (Ticks left right) (AngularVelocity left' right') = false
same_kind (AngularVelocity left right) (Ticks left' right') = false
same_kind (AngularVelocity left right) (AngularVelocity left' right') = true
