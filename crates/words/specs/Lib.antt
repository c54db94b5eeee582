-- Numbers in lent bytes.
pub mod Words
