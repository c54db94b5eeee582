-- Laws that belong to no one function: what the order of the keys is.
pub mod Keys
pub mod Total
pub mod Statements
