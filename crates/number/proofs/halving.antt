mod Powers
pub mod Least
