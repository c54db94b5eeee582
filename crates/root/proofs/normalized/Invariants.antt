-- `root::normalized`: m * 2 ^ j is what it was, and m has at most 53 binary digits and is not 0. So j is above 0 as long as the loop goes on, and it is the measure.
-- Assumes nothing.
use mathlib.Core.Path.{◌≡◌}
use Prim.Native.Nat.{◌*◌, ◌^◌, ◌≤◌, ◌<◌}
use Rattle.root.proofs.normalized.Given as goal

abbrev pub invariant-loop-m : goal.invariant-loop-m
invariant-loop-m l = (l.m * 2 ^ l.j ≡ l.m0 * 2 ^ l.j0) × (0 < l.m) × (l.m < 2 ^ 53) × (l.j ≤ l.j0)

abbrev pub decreases-loop-m : goal.decreases-loop-m
decreases-loop-m l = l.j
