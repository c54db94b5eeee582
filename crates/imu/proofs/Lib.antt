-- Laws that belong to no one function.
pub mod Cases
pub mod Laws
pub mod Follows
pub mod Statements
