-- 01, The wheel step: what is worked out of two readings, and the motion between them. The radians per tick and the rate noise are handed in: 02, W-206, has them kept.
use Rattle.std.specs.Prelude.{ℕ, zero, suc, List, Float}
use Rattle.number.specs.Float.{◌⊖◌, ◌⊗◌, ◌⊘◌, size, larger}
use Rattle.number.specs.Constants.{c0·01, c0·02}
use Rattle.number.specs.Halving.{power, halving_count}
use Rattle.mat3.specs.Matrix.{scaled}
use Rattle.planar.specs.Compose.{composed}
use Rattle.arc.specs.Arc.{increment_of}
use Rattle.planar.specs.declared.PlanarMotion.{PlanarMotion}
use Rattle.drive.specs.declared.DifferentialDrive.{DifferentialDrive}
use Rattle.drive.specs.declared.WheelMeasurement.{WheelMeasurement}
use Rattle.drive.specs.Drive.{twist_of, rates_between}
use Rattle.interval.specs.declared.Interval.{Interval}

-- "Ratio: the larger of dt/0.01 and |wz·dt|/0.02, a NaN angle being passed over."
unfoldable pub ratio_of : Float → Float → Float
ratio_of dt wz = larger (dt ⊘ c0·01) (size (wz ⊗ dt) ⊘ c0·02)

-- the twist between the readings, k the halving count of its ratio, "h = dt/2^k", and wz·h
unfoldable pub interval_of : DifferentialDrive → (per_tick : Float) → WheelMeasurement → WheelMeasurement → Interval
interval_of d per_tick last m =
    let dt = m.timestamp ⊖ last.timestamp in
    let v = twist_of d (rates_between d per_tick last.reading m.reading dt) in
    let k = halving_count (ratio_of dt v.wz) in
    let h = dt ⊘ power k in
    record { dt = dt; twist = v; halvings = k; substep = h; angle = v.wz ⊗ h }

-- "k times the motion is composed with itself"
unfoldable pub doubled : ℕ → PlanarMotion → PlanarMotion
doubled zero p = p
doubled (suc k) p = doubled k (composed p p)

-- "One increment by `se2_exp` of (vx·h, vy·h, wz·h), its covariance Jac·(rate noise·h)·Jacᵀ; then k times the motion is composed with itself"
unfoldable pub interval_motion : (rate_noise : List Float) → Interval → PlanarMotion
interval_motion rate_noise i =
    let v = i.twist in
    let h = i.substep in
    doubled i.halvings (increment_of (v.vx ⊗ h) (v.vy ⊗ h) (v.wz ⊗ h) (scaled rate_noise h))
