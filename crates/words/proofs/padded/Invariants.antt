-- `padded` meets its contract: the loop keeps `Filled`, that the first k bytes stand at the front. Assumes nothing.
use lib.ListN.{get_or}
use Rattle.number.proofs.Filled.{Filled}
use Rattle.words.proofs.padded.Given as goal

abbrev pub invariant-loop-k : goal.invariant-loop-k
invariant-loop-k g l = Filled g.row.N (λ k. get_or l.bytes k 0) l.initial.b-items l.k l.b-items
