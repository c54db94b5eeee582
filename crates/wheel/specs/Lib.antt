-- The wheel step, in 01's order.
pub mod Answers
pub mod Integrator
pub mod Step
pub mod Statements
