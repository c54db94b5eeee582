-- `root::half_root`: m is below the square of s + 1, and s is at most 2 ^ 28. The measure is s. Assumes nothing.
use Prim.Native.Nat.{◌+◌, ◌*◌, ◌^◌, ◌≤◌, ◌<◌}
use Rattle.root.proofs.Digits.half_root.Given as goal

abbrev pub invariant-loop-s : goal.invariant-loop-s
invariant-loop-s l = (l.m < (l.s + 1) * (l.s + 1)) × (l.s ≤ 2 ^ 28)

abbrev pub decreases-loop-s : goal.decreases-loop-s
decreases-loop-s l = l.s
