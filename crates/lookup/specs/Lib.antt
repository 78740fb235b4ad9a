-- The definitions of the crate: actions by fact, and what they do to a state's number.
pub mod FactRows
pub mod Moves
