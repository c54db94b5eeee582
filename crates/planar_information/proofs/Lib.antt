-- Laws that belong to no one function.
pub mod Corner
pub mod Symmetry
