-- Agrees: the law that imu cites, for matrices of the shapes in Shapes. The others serve the functions here.
pub mod Agrees
pub mod Shapes
mod Columns
mod Finite
mod Kept
