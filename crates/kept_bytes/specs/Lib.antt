-- What the fixture stores.
pub mod Fixture
