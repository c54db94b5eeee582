-- 01, Inertial accumulation: which samples lie in the window, and their order.
pub mod Order
pub mod Window
pub mod Statements
pub mod Inside
