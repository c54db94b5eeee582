-- Words that only private functions and their proofs need. Nothing in them has to be believed: no contract of an entry speaks of them, and proofs/step/Lean.antt says
-- what they have to do with the definitions of Step.antt, which are believed.
pub mod Lean
