-- 01, The wheel step: the motion between two readings, and what is accumulated.
pub mod Interval
pub mod Accumulated
