-- The information of still factors.
pub mod Information
