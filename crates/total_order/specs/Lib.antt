-- 01, Inertial accumulation: IEEE total order, in whole numbers.
pub mod Order
pub mod Statements
