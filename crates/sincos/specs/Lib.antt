-- 01, sine and cosine: one fixed evaluation, and what is refused.
pub mod Refusals
pub mod Turn
pub mod Statements
