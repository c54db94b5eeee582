-- The products of the inertial step without what meets a zero.
pub mod Inside
