-- What the timed functions are given.
pub mod Fixture
