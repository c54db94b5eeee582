-- 01, Inertial accumulation: turns.
pub mod Rotation
