-- `root::sqrt` meets its contract: the tests are the definition's, and what is left is finite and above zero, so that `positive_root` finds the one root.
-- Assumes nothing.
use Rattle.root.specs.Root.{sqrt_of}
use Rattle.root.proofs.Choice.{is_positive}
use Rattle.root.proofs.Descend.{only_root}
use Rattle.root.proofs.sqrt.Goals as goal

pub positive_root-requires : goal.positive_root-requires
positive_root-requires c = is_positive c.args.x c.if-not-x.false c.if-x-2.false

pub returns : goal.returns
unfolding sqrt_of
returns c = simp (c.if-x.false, c.if-x-2.false, c.if-not-x.false, only_root c.args.x c.positive_root.result c.positive_root.ensures)
