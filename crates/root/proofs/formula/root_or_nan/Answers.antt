-- `root_or_nan` meets its contract: a refusal gives the NaN. Assumes nothing.
use Rattle.std.proofs.Common.{◌≡◌, refl, ap, ◌∙◌}
use Rattle.std.specs.Prelude.{Float, Result, Ok, Err}
use Rattle.std.specs.Float.{nan}
use Rattle.std.specs.Result.{result_unwrap_or}
use lib.Ieee as Ieee
use Rattle.number.specs.declared.refusal.Refusal.{Refusal}
use Rattle.root.specs.Root.{or_nan, said_root}
use Rattle.root.proofs.formula.root_or_nan.Goals as goal

or_else_nan : (r : Result Float Refusal) → result_unwrap_or r nan ≡ or_nan (said_root r)
or_else_nan (Ok v) = refl
or_else_nan (Err e) = refl

pub returns : goal.returns
unfolding Ieee.of_bits
returns c = c.unwrap_or.ensures ∙ or_else_nan c.sqrt.result ∙ ap or_nan c.sqrt.ensures
