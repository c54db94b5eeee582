-- 01, The wheel step: what an integrator accumulates, from nothing, interval by interval.
use Rattle.std.specs.Prelude.{Bool, ◌&&◌, List, Float}
use Rattle.number.specs.Float.{◌⊕◌, finite}
use Rattle.number.specs.Constants.{zero as +0}
use Rattle.planar.specs.Motion.{identity, finite_motion}
use Rattle.planar.specs.Compose.{composed}
use Rattle.interval.specs.declared.Accumulated.{Accumulated}
use Rattle.interval.specs.declared.Interval.{Interval}
use Rattle.interval.specs.Interval.{interval_motion}

-- "identity motion, an all-zero covariance and dt 0, every zero being +0"
abbrev pub none : Accumulated
none = record { motion = identity; dt = +0 }

-- "motion, covariance and (added) the new total dt must be finite"
unfoldable pub finite_accumulated : Accumulated → Bool
finite_accumulated a = finite_motion a.motion && finite a.dt

-- "then the stored motion with the result", and "the new total dt"
unfoldable pub advanced : Accumulated → (rate_noise : List Float) → Interval → Accumulated
advanced a rate_noise i = record { motion = composed a.motion (interval_motion rate_noise i); dt = a.dt ⊕ i.dt }
