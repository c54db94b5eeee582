-- `store` meets its contract: the loop keeps `Filled`, that the first i numbers stand at the front. Assumes nothing.
use mathlib.Core.Path.{refl}
use native.Mathlib.Omega.{arith}
use Rattle.number.proofs.Filled.{filled_none, filled_more, filled_done}
use Rattle.kept_bytes.proofs.store.Goals as goal

pub loop-i-init : goal.loop-i-init
loop-i-init c = filled_none refl

pub loop-i-preserved : goal.loop-i-preserved
loop-i-preserved c = filled_more c.loop-i.invariant (omega arith) c.number_of.ensures

pub returns : goal.returns
returns c = filled_done c.loop-i.invariant (omega arith)
