-- Every statement of 01 on a composed motion holds. Assumes nothing.
use Rattle.planar.specs.Statements.{Statements}
use Rattle.planar.proofs.Laws.{composed_symmetric, composed_heading}

pub statements : Statements
statements = record { composed_symmetric = composed_symmetric; composed_heading = composed_heading }
