-- Runs of readings, restarts and changes of drive and noise, and the theorem on them.
pub mod Run
pub mod Events
pub mod Theorem
