-- 01, Inertial accumulation: the state, and one step.
pub mod Answers
pub mod State
pub mod Step
pub mod Statements
pub mod Inside
