-- The definitions of the crate: the numbers of states, the work table, and how the search fills it.
pub mod States
pub mod Table
pub mod Entries
pub mod Settling
pub mod Selecting
pub mod Bounds
pub mod Rows
pub mod Tables
pub mod Offers
