-- The definitions of the crate: numbers as text, and how their digits are worked out.
pub mod Decimal
pub mod Groups
pub mod Clauses
pub mod Reads
