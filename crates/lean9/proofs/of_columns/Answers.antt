-- `of_columns` meets its contract: before the loops, after a turn and at the end, by the laws of `FilledTo`. Assumes nothing.
use Rattle.std.proofs.Common.{arith}
use lib.ListN.{length-replicate}
use lib.Ieee.{nan}
use Rattle.number.proofs.Tabulated.{tabulated_at}
use Rattle.mat9.proofs.Loops.{filled_to_none, filled_to_more, filled_to_next, filled_to_done}
use Rattle.lean9.proofs.of_columns.Goals as goal

pub loop-c-init : goal.loop-c-init
loop-c-init g c = λ f told. filled_to_none (simp length-replicate c.requires.size)

pub loop-r-preserved : goal.loop-r-preserved
loop-r-preserved g c = λ f told.
    let j = c.loop-c.c in
    filled_to_more (c.loop-r.invariant f told) (omega arith) (omega arith)
    (rw (told j c.column-w.result (omega arith) c.column-w.ensures) (tabulated_at (λ r. f r j) 9 c.loop-r.r nan (omega arith)))

pub loop-c-preserved : goal.loop-c-preserved
loop-c-preserved g c = λ f told. filled_to_next (c.loop-r.invariant f told) (omega arith)

pub returns : goal.returns
returns g c = λ f told. filled_to_done (c.loop-c.invariant f told) (omega arith)
