-- 9×9, 9×6 and 6×6 matrices.
pub mod Matrix
