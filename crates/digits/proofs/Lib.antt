-- Laws about the crate's definitions: decimal digits, digits by threes, and runs of stores.
pub mod Computes
pub mod DecimalLaws
pub mod GroupLaws
pub mod PutLaws
pub mod TableLaws
