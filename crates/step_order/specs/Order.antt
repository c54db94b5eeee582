-- 01, The wheel step: the order in which a reading is refused, from its first line to its last, with 02's refusals at their places. It stands in three parts, since
-- after the first a reading with none before it is the baseline, and after the second the motion is composed.
use Rattle.std.specs.Prelude.{not, ◌||◌, [], ◌∷◌, Float, Result}
use Rattle.number.specs.Float.{◌<ᶠ◌, ◌=ᶠ◌, ◌when◌else◌, finite}
use Rattle.number.specs.Constants.{zero as +0}
use Rattle.number.specs.Said.{Said, gives, refused, refusal, said_result}
use Rattle.sincos.specs.Turn.{above_four}
use Rattle.drive.specs.declared.DifferentialDrive.{DifferentialDrive}
use Rattle.drive.specs.declared.WheelNoise.{WheelNoise}
use Rattle.drive.specs.declared.WheelMeasurement.{WheelMeasurement}
use Rattle.drive.specs.Drive.{valid_drive}
use Rattle.drive.specs.Noise.{valid_noise}
use Rattle.drive.specs.Readings.{finite_measurement, in_range, same_kind}
use Rattle.drive.specs.Refusals.{row_of}
use Rattle.drive.specs.declared.Refusal.{Refusal}
use Rattle.interval.specs.declared.Accumulated.{Accumulated}
use Rattle.interval.specs.declared.Interval.{Interval}
use Rattle.interval.specs.Accumulated.{finite_accumulated}

-- what an outcome says: a reading that is accepted gives nothing beside the state
abbrev pub said_fit : Result (Unit {0}) Refusal → Said (Unit {0})
said_fit r = said_result row_of r

-- "Order: 1; 2 for time or rates; then .." and before that 01, Refusal numbers: "unfit noise or drive is refused 6, then 7, before 1". 02, W-201: "a tick out of range is
-- 16, after 2 for the reading and also for a baseline."
unfoldable pub reading_fits : DifferentialDrive → WheelNoise → WheelMeasurement → Said (Unit {0})
reading_fits d n m =
    refusal 6 when not (valid_noise n) else
    refusal 7 when not (valid_drive d) else
    refusal 1 when not m.valid else
    refusal 2 when not (finite_measurement m) else
    refusal 16 when not (in_range d.counter_width m.reading) else
    gives tt

-- "After that 3, 4, 5, 8, 2 ..": "If wz·h is finite and above 4 in size: refused 8; if not finite: 2", and 01, Refusal numbers: "A stored heading above 4 in size
-- is refused 8 with the step's 8." h is the stored heading.
unfoldable pub interval_fits : (h : Float) → (last m : WheelMeasurement) → Interval → Said (Unit {0})
interval_fits h last m i =
    refused 3 (m.timestamp ∷ last.timestamp ∷ []) when i.dt <ᶠ +0 else
    refused 4 (m.timestamp ∷ []) when i.dt =ᶠ +0 else
    refusal 5 when not (same_kind last.reading m.reading) else
    refusal 8 when above_four i.angle || above_four h else
    refusal 2 when not (finite i.angle) else
    gives tt

-- ".. for the result": "motion, covariance and (added) the new total dt must be finite, else 2"
abbrev pub result_fits : Accumulated → Said (Unit {0})
result_fits a =
    refusal 2 when not (finite_accumulated a) else
    gives tt
