-- The definitions of the crate: what a text states, how it is read, what the code asks and ensures, and what is promised.
pub mod Sas
pub mod Stated
pub mod Fields
pub mod Cursors
pub mod Format
pub mod Reads
pub mod Text
pub mod Clauses
pub mod VariableContracts
pub mod ListContracts
pub mod OperatorContracts
pub mod Parts
pub mod Translate
pub mod Right
pub mod Examples
