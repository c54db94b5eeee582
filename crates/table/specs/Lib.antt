-- 01, Examples to prove.
pub mod Table
