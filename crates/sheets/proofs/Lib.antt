-- Laws about the crate's definitions: lines, what the page shows, and the call's answer.
pub mod LineLaws
pub mod StepLaws
pub mod Right
pub mod Answers
pub mod PageRight
pub mod CallLaws
pub mod Examples
