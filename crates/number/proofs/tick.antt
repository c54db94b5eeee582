pub mod Signed
pub mod Width
pub mod Laws
pub mod Sums
