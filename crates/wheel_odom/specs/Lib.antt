-- Wheel odometry, in 01's order: the measurement, its information.
pub mod Measurement
pub mod Information
