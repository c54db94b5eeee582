-- 01, Inertial accumulation: batches and windows.
pub mod Refusals
pub mod Batch
pub mod Window
pub mod Statements
pub mod Inside
