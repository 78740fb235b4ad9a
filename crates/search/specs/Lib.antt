-- The definitions of the crate, in the order of document 01.
pub mod FirstPlan
pub mod Least
pub mod ReadOff
pub mod Planner
pub mod Found
pub mod Answers
pub mod PlannerRight
