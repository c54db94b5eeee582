-- 3×3 matrices.
pub mod Matrix
