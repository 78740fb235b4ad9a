-- The definitions of the crate: sets as the bits of words.
pub mod Sets
