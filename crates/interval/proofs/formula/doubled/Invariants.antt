-- `doubled` meets its contract. The invariant: what is left to do to the motion so far gives what was to be done to the first.
-- Assumes nothing.
use Rattle.std.proofs.Common.{◌≡◌, ◌-◌}
use Rattle.interval.specs.Interval.{doubled}
use Rattle.interval.proofs.formula.doubled.Given as goal

abbrev pub invariant-loop : goal.invariant-loop
invariant-loop l = doubled (l.k - l.counter) l.motion ≡ doubled l.k l.fn.p
