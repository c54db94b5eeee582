-- `settled_noise` meets its contract: each number is written over with itself. Assumes nothing.
use Rattle.std.proofs.Common.{◌≡◌}
use Rattle.kept.proofs.settled_noise.Given as goal

abbrev pub invariant-loop-x : goal.invariant-loop-x
invariant-loop-x l = l.x-items ≡ l.fn.q
