-- Every statement of 01 on joined still factors holds. Assumes nothing.
use Rattle.stationary.specs.Statements.{Statements}
use Rattle.stationary.proofs.Laws.{composition_joins}

pub statements : Statements
statements = record { composition_joins = composition_joins }
