-- The Huber limit that factors share.
pub mod Huber
