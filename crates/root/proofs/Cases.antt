-- What `sqrt` says in 01's numbers determines its answer. Assumes nothing.
use Rattle.std.proofs.Common.{◌≡◌}
use Rattle.std.specs.Prelude.{Float, Result}
use Rattle.number.specs.declared.refusal.Refusal.{Refusal}
use Rattle.number.specs.Refusals.{row_of}
use Rattle.number.proofs.Cases.{said_result_determined}
use Rattle.number.proofs.Refusals.{row_determined}
use Rattle.root.specs.Root.{said_root}

pub root_determined : (a b : Result Float Refusal) → said_root a ≡ said_root b → a ≡ b
root_determined = said_result_determined row_of row_determined
