-- Every statement of 01 on one inertial call holds. Assumes nothing.
use Rattle.imu.specs.Statements.{Statements}
use Rattle.imu.proofs.Laws.{refused_keeps, accepted_finite}

pub statements : Statements
statements = record { refused_keeps = refused_keeps; accepted_finite = accepted_finite }
