-- Planar motions, in 01's order: what a motion is, and composing.
pub mod Motion
pub mod Compose
pub mod Statements
