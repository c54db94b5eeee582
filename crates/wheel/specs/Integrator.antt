-- 01, The wheel step: "A fresh integrator has no last reading, identity motion, an all-zero covariance and dt 0, every zero being +0." 02, W-206: the values that it
-- keeps beside them, and the change of drive and noise.
use Rattle.std.specs.Prelude.{Option, None, Some, not, ◌&&◌, ◌≡◌, eqb}
use Rattle.number.specs.Float.{◌when◌else◌}
use Rattle.number.specs.Said.{Told, accepts, refuses}
use Rattle.drive.specs.declared.DifferentialDrive.{DifferentialDrive}
use Rattle.drive.specs.declared.WheelNoise.{WheelNoise}
use Rattle.drive.specs.declared.WheelMeasurement.{WheelMeasurement}
use Rattle.drive.specs.Drive.{valid_drive, blank_drive}
use Rattle.drive.specs.Noise.{valid_noise, blank_noise}
use Rattle.kept.specs.declared.KeptValues.{KeptValues}
use Rattle.kept.specs.Kept.{kept_of, blank_kept}
use Rattle.interval.specs.declared.Accumulated.{Accumulated}
use Rattle.interval.specs.Accumulated.{none}
use Rattle.wheel.specs.declared.Settings.{Settings}
use Rattle.wheel.specs.declared.WheelPreintegration.{WheelPreintegration}

abbrev pub settings : DifferentialDrive → WheelNoise → Settings
settings d n = record { drive = d; noise = n }

-- the kept values "worked out afresh"
abbrev pub afresh : Settings → KeptValues
afresh c = kept_of c.drive c.noise

-- with nothing accumulated
abbrev pub begun : Settings → KeptValues → Option WheelMeasurement → WheelPreintegration
begun c kept last = record { settings = c; kept = kept; accumulated = none; last = last }

abbrev pub fresh : Settings → WheelPreintegration
fresh c = begun c (afresh c) None

-- "no state": every number +0 and no reading
abbrev pub blank : WheelPreintegration
blank = begun (settings blank_drive blank_noise) blank_kept None

-- 01, Refusal numbers: "Making an integrator refuses 6 before 7 and then returns no state."
unfoldable pub make_of : DifferentialDrive → WheelNoise → Told WheelPreintegration
make_of d n =
    refuses 6 blank when not (valid_noise n) else
    refuses 7 blank when not (valid_drive d) else
    accepts (fresh (settings d n))

-- "Restart sets motion, covariance and dt to these; the rest, the last reading included, is kept."
abbrev pub restarted : WheelPreintegration → WheelPreintegration
restarted s = begun s.settings s.kept s.last

-- 02, W-206: "an operation that changes drive and noise between walks: it .. keeps the last reading, and acts as a restart"
abbrev pub changed : WheelPreintegration → Settings → WheelPreintegration
changed s c = begun c (afresh c) s.last

-- "it checks as on making"; "a change gives 6, then 7, another counter width included, and leaves everything"
unfoldable pub change_of : WheelPreintegration → DifferentialDrive → WheelNoise → Told WheelPreintegration
change_of s d n =
    refuses 6 s when not (valid_noise n) else
    refuses 7 s when not (valid_drive d && eqb d.counter_width s.settings.drive.counter_width) else
    accepts (changed s (settings d n))

-- m is taken, and a is accumulated with it
abbrev pub moved : WheelPreintegration → Accumulated → WheelMeasurement → WheelPreintegration
moved s a m = record { settings = s.settings; kept = s.kept; accumulated = a; last = Some m }

-- 02, W-206: "equal, bit for bit, to the values worked out afresh"
abbrev pub Kept : WheelPreintegration → Type 0
Kept s = s.kept ≡ afresh s.settings
