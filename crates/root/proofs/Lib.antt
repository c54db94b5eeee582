-- Laws that belong to no one function.
pub mod Cases
mod Newton
mod Near
mod Extend
mod Halves
mod Values
mod Rounded
mod Floats
mod Choice
mod Descend
mod Exists
pub mod Laws
pub mod Statements
pub mod Examples
