-- The invariants of the loops of `from_blocks`: the columns before c are filled, and of column c the rows before r. Assumes nothing.
use Rattle.std.proofs.Common.{◌*◌}
use Rattle.mat9.proofs.Loops.{block_entry, FilledTo}
use Rattle.mat9.proofs.from_blocks.Given as goal

abbrev pub invariant-loop-r : goal.invariant-loop-r
invariant-loop-r g l = FilledTo (3 * g.row.ACROSS) (block_entry g.row.ACROSS l.parts) l.initial.out l.r l.c l.out

abbrev pub invariant-loop-c : goal.invariant-loop-c
invariant-loop-c g l = FilledTo (3 * g.row.ACROSS) (block_entry g.row.ACROSS l.parts) l.out 0 l.c l.out
