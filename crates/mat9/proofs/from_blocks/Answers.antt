-- `from_blocks` meets its contract: before the loops, after a turn and at the end, by the laws of `FilledTo`. Assumes nothing.
use Rattle.std.proofs.Common.{refl, arith}
use lib.ListN.{length-replicate}
use Rattle.mat9.specs.Matrix.{blocks}
use Rattle.mat9.proofs.Loops.{filled_to_none, filled_to_more, filled_to_done}
use Rattle.mat9.proofs.from_blocks.Goals as goal

pub loop-c-init : goal.loop-c-init
loop-c-init g c = filled_to_none (simp length-replicate c.requires.1)

pub loop-r-preserved : goal.loop-r-preserved
loop-r-preserved g c = filled_to_more c.loop-r.invariant (omega arith) (omega arith) refl

pub returns : goal.returns
unfolding blocks
returns g c = filled_to_done c.loop-c.invariant (omega arith)
