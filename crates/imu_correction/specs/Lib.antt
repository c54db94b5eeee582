-- 01, Inertial accumulation: bias corrections and prediction.
pub mod Correction
