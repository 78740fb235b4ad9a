-- Laws about the crate's definitions: state numbers, the order on distances, and that the distances and the plan read
-- off them are least over all lists.
pub mod Computes
pub mod ReadOff
pub mod LeastPlans
pub mod TableEntries
pub mod FoundLaws
pub mod StageLaws
pub mod PlanFiles
pub mod SearchLaws
pub mod FirstBits
pub mod Going
pub mod HereLoops
pub mod Leading
pub mod Stepping
pub mod Answers
pub mod PlannerRight
pub mod Ample
