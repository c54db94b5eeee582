-- 01, Inertial accumulation: samples in flat numbers.
pub mod Samples
