-- 01, The wheel step: what a reading that came through the order makes of the state. 02, W-206: it reads the kept values; the definition that works them out at
-- each reading stands beside it.
use Rattle.std.specs.Prelude.{Option, None, Some}
use Rattle.number.specs.Said.{Said, gives, refused, Told, told, accepts}
use Rattle.planar.specs.Motion.{heading}
use Rattle.drive.specs.declared.WheelMeasurement.{WheelMeasurement}
use Rattle.kept.specs.declared.KeptValues.{KeptValues}
use Rattle.interval.specs.declared.Accumulated.{Accumulated}
use Rattle.interval.specs.declared.Interval.{Interval}
use Rattle.interval.specs.Interval.{interval_of}
use Rattle.interval.specs.Accumulated.{advanced}
use Rattle.step_order.specs.Order.{reading_fits, interval_fits, result_fits}
use Rattle.wheel.specs.declared.WheelPreintegration.{WheelPreintegration}
use Rattle.wheel.specs.Integrator.{afresh, moved}

-- 01, Refusal numbers: "A refused call returns the number and the state given in."
abbrev pub unless_refused : Said (Unit {0}) → WheelPreintegration → Told WheelPreintegration → Told WheelPreintegration
unless_refused (refused n values) s next = told (refused n values) s
unless_refused (gives u) s next = next

-- the interval from the last reading to m, and what is accumulated with it
abbrev pub interval_by : KeptValues → WheelPreintegration → (last m : WheelMeasurement) → Interval
interval_by kept s last m = interval_of s.settings.drive kept.radians_per_tick last m

abbrev pub advanced_by : KeptValues → WheelPreintegration → (last m : WheelMeasurement) → Accumulated
advanced_by kept s last m = advanced s.accumulated kept.rate_noise (interval_by kept s last m)

unfoldable pub step_from : KeptValues → WheelPreintegration → (last m : WheelMeasurement) → Told WheelPreintegration
step_from kept s last m =
    let a = advanced_by kept s last m in
    unless_refused (interval_fits (heading s.accumulated.motion) last m (interval_by kept s last m)) s (
    unless_refused (result_fits a) s (
    accepts (moved s a m)))

-- "with no earlier reading, it becomes the baseline and nothing else changes"
abbrev pub after : KeptValues → Option WheelMeasurement → WheelPreintegration → WheelMeasurement → Told WheelPreintegration
after kept None s m = accepts (moved s s.accumulated m)
after kept (Some last) s m = step_from kept s last m

-- the step with these values for the rate noise and the radians per tick
abbrev pub step_by : KeptValues → WheelPreintegration → WheelMeasurement → Told WheelPreintegration
step_by kept s m = unless_refused (reading_fits s.settings.drive s.settings.noise m) s (after kept s.last s m)

-- 02, W-206: "a state handed in with other kept values is answered with those"
unfoldable pub step_of : WheelPreintegration → WheelMeasurement → Told WheelPreintegration
step_of s m = step_by s.kept s m

-- 01's step, which has them from drive and noise: "all answers stay the same"
unfoldable pub step_afresh : WheelPreintegration → WheelMeasurement → Told WheelPreintegration
step_afresh s m = step_by (afresh s.settings) s m
