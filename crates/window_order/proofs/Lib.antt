-- Laws that belong to no one function: the loops that count and choose the window's samples, the samples as arrays and their keys, and what the order of a window is.
pub mod Choosing
pub mod Accepted
pub mod Held
pub mod WindowOrder
pub mod Statements
pub mod Cases
pub mod Example
