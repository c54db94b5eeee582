-- The invariant of the loop of `plus_column`: the first r sums are made. Assumes nothing.
use lib.ListN.{get_or}
use lib.Ieee.{nan}
use Rattle.number.specs.Float.{◌⊕◌, ◌⊗◌}
use Rattle.number.proofs.Filled.{Filled}
use Rattle.mat9.specs.Matrix.{entry}
use Rattle.lean9.proofs.plus_column.Given as goal

abbrev pub invariant-loop-r : goal.invariant-loop-r
invariant-loop-r g l = Filled 9 (λ r. get_or l.w r nan ⊕ entry 9 l.m r l.k ⊗ l.x) l.initial.out l.r l.out
