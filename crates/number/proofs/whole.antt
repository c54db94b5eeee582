pub mod Closest
pub mod Rounded
pub mod Laws
pub mod Nearer
