-- Laws about the crate's definitions: bits of words, and the loops over them.
pub mod BitLaws
pub mod PutLoops
pub mod SetLoops
pub mod WordLoops
