-- The definitions of the crate: the sheet, what its call answers, and what the page shows.
pub mod Sheet
pub mod Clauses
pub mod Answers
pub mod Right
pub mod Examples
