-- The definitions of the number leaves, in the order in which 01 speaks of them.
pub mod Float
pub mod Said
pub mod Refusals
pub mod Constants
pub mod Fit
pub mod Tabulated
pub mod Whole
pub mod Ticks
pub mod Halving
pub mod Statements
