-- 01, Inertial accumulation: what one step makes of each part.
pub mod Parts
pub mod Inside
