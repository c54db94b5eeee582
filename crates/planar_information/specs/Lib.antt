-- The information of a planar motion.
pub mod Block
