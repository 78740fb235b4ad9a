-- The demands are met, and the worked examples come out as document 01 says.
pub mod Computes
pub mod Demand1
pub mod Demand2
pub mod Demand3
pub mod Examples
