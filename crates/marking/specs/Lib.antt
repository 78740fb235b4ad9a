-- The definitions of the crate, in the order of document 01.
pub mod Marks
pub mod Links
pub mod Covering
pub mod Rounds
pub mod Mark
pub mod Levels
pub mod Answers
pub mod Dense
pub mod Clauses
pub mod Examples
