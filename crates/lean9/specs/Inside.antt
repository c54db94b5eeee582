-- Words between this crate and imu_step. Nothing in them has to be believed: no contract of an entry speaks of them, and proofs/Agrees.antt says what they have to do
-- with the whole products, which are believed.
pub mod Lean
