-- The demands, and the worked examples of document 01.
pub mod Demands
pub mod Listing
pub mod Examples
