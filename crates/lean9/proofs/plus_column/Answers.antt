-- `plus_column` meets its contract: before the loop, after a turn and at the end, by the laws of `Filled`. Assumes nothing.
use native.Mathlib.Omega.{arith}
use mathlib.Core.Path.{refl}
use borrow.Author.Rules.{rules}
use Rattle.number.proofs.Filled.{filled_none, filled_more, filled_done}
use Rattle.lean9.proofs.plus_column.Goals as goal

pub loop-r-init : goal.loop-r-init
loop-r-init g c = filled_none (search rules)

pub loop-r-preserved : goal.loop-r-preserved
loop-r-preserved g c = filled_more c.loop-r.invariant (omega arith) refl

pub returns : goal.returns
returns g c = filled_done c.loop-r.invariant (omega arith)
