-- `mat9_add` meets its contract: place n is row n % 9 of column n / 9. Assumes nothing.
use Rattle.std.proofs.Common.{rules}
use native.Mathlib.Nat.{mod-add-div'}
use lib.Ieee.{nan}
use Rattle.number.specs.Float.{◌⊕◌}
use Rattle.mat9.specs.Matrix.{entry, matrix, sum}
use Rattle.mat9.proofs.Loops.{cell}
use Rattle.mat9.proofs.Made.{made_by}
use Rattle.mat9.proofs.mat9_add.Goals as goal

pub returns : goal.returns
unfolding sum matrix
returns c =
    made_by {n = 81} (cell 9 (λ i j. entry 9 c.args.a.now i j ⊕ entry 9 c.args.b.now i j)) nan c.from_fn.ensures.items (λ i y q l call. rw mod-add-div' (search rules))
