-- Laws about the crate's definitions: the order on cost and steps, facts and states by what
-- conditions admit, plans by their steps, and rows of cells as states.
pub mod Computes
pub mod Copied
pub mod OrderLaws
pub mod AdmitsLaws
pub mod FactLaws
pub mod StateLaws
pub mod RunLaws
pub mod RowStates
pub mod WalkLaws
pub mod CheckLaws
pub mod PlanChecker
