-- Every statement of 01 on the square root holds. Assumes nothing.
use Rattle.root.specs.Statements.{Statements}
use Rattle.root.proofs.Laws.{root_is, only, over_any, under_any}

pub statements : Statements
statements = record { root_is = root_is; root_only = only; nearer_than_below = over_any; nearer_than_above = under_any }
