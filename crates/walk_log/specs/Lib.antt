-- 01, The log: its layout, and what breaks it.
pub mod Refusals
pub mod Layout
pub mod Faults
pub mod Statements
