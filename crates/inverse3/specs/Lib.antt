-- The determinant and the inverse of a 3×3 matrix.
pub mod Inverse
