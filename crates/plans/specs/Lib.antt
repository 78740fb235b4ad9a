-- The definitions of the crate, in the order of document 01.
pub mod State
pub mod Plan
pub mod Check
pub mod Tally
pub mod Clauses
pub mod Checker
