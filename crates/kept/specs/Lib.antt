-- What depends only on drive and noise, and is kept.
pub mod Kept
pub mod Statements
