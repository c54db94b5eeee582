-- Words between this crate and imu. Nothing in them has to be believed: no contract of an entry speaks of them, and proofs/Agrees.antt says what they have to do with
-- `covariance_after`, which is believed.
pub mod Lean
