-- `padded` meets its contract: the loop keeps `Filled`, that the first k bytes stand at the front. Assumes nothing.
use native.Mathlib.Omega.{arith}
use Rattle.std.proofs.lemmas.List.{length-replicate}
use Rattle.number.proofs.Filled.{filled_none, filled_more, filled_done}
use Rattle.words.proofs.padded.Goals as goal

pub loop-k-init : goal.loop-k-init
loop-k-init g c = filled_none (length-replicate g.row.N 0)

pub loop-k-preserved : goal.loop-k-preserved
loop-k-preserved g c = filled_more c.loop-k.invariant (omega arith) c.byte_at.ensures

pub returns : goal.returns
returns g c = filled_done c.loop-k.invariant (omega arith)
