-- Every statement of 01 on wheel factors holds. Assumes nothing.
use Rattle.wheel_factor.specs.Statements.{Statements}
use Rattle.wheel_factor.proofs.Laws.{refused_not_valid, joined_spans}

pub statements : Statements
statements = record { refused_not_valid = refused_not_valid; joined_spans = joined_spans }
