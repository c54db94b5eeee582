-- Laws that belong to no one function.
pub mod Steps
pub mod Chains
pub mod Lists
pub mod Front
mod Invariant
pub mod SoFar
pub mod Theorem
pub mod Example
