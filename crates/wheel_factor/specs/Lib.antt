-- The factor of a wheel measurement.
pub mod Factor
pub mod Statements
