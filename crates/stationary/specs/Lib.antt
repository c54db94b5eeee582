-- Still stretches, in 01's order: the factor and its validity, joining two.
pub mod Factor
pub mod Join
pub mod Statements
