-- 01, The wheel step: what a reading, a drive and a noise are, and what follows from them alone.
pub mod Refusals
pub mod Readings
pub mod Drive
pub mod Noise
pub mod Statements
