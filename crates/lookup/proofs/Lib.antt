-- Laws about the crate's definitions: what a variable can have after a step, and the loops that fill the tables.
pub mod HaveLaws
pub mod FactRowLoops
pub mod MoveLoops
