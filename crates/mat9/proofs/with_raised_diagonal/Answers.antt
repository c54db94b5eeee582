-- `with_raised_diagonal` meets its contract: m is the list of its own 36 entries, and with that both sides compute to the same 36 numbers. Assumes nothing.
use mathlib.Core.Path.{◌≡◌}
use lib.ListN.{length}
use lib.Ieee.{nan}
use Rattle.number.specs.Tabulated.{tabulated}
use Rattle.number.proofs.Tabulated.{tabulated_entries}
use Rattle.mat9.specs.Matrix.{diagonal_raised, matrix}
use borrow.Author.Rules.{rules}
use Rattle.mat9.proofs.with_raised_diagonal.Goals as goal

pub returns : goal.returns
unfolding diagonal_raised matrix tabulated
returns c = let long : length c.args.m ≡ 36 = search rules in rw (tabulated_entries c.args.m nan long)
