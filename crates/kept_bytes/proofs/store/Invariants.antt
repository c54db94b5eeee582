-- `store` meets its contract: the loop keeps `Filled`, that the first i numbers stand at the front. Assumes nothing.
use lib.ListN.{length}
use Rattle.number.proofs.Filled.{Filled}
use Rattle.kept_bytes.specs.Fixture.{kept_number}
use Rattle.kept_bytes.proofs.store.Given as goal

abbrev pub invariant-loop-i : goal.invariant-loop-i
invariant-loop-i l = Filled (length l.initial.out) (kept_number l.kept) l.initial.out l.i l.out
