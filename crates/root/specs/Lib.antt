-- 01, Square root: the definition, and what 01 states of it.
pub mod Root
pub mod Statements
pub mod Inside
