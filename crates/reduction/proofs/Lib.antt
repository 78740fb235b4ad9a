-- Laws about the crate's definitions: what is kept, plans that correspond, what is reached, that the reduced task is
-- accepted, and that turns end. Laws about the code: numbers chosen into an array, marks set in an array of zeros, arrays
-- that hold the reduced task, reached actions by counting, a task with chosen actions alone, origins composed, a turn, and
-- the condition pairs of an action within its file.
pub mod Computes
pub mod KeptFacts
pub mod KeptVariables
pub mod KeptActions
pub mod Correspondence
pub mod ReducedCorresponds
pub mod StruckCorresponds
pub mod ReducedLength
pub mod ReducedValid
pub mod StruckValid
pub mod Preservation
pub mod Composition
pub mod ReachLaws
pub mod ReachPlans
pub mod SameTask
pub mod OriginFits
pub mod TurnOrigins
pub mod Weights
pub mod Within
pub mod TurnsFall
pub mod TurnsRight
pub mod Levels
pub mod FilesPreserved
pub mod FreshMarks
pub mod NamedHeld
pub mod ReducedHeld
pub mod FilledArrays
pub mod ChosenHeld
pub mod OriginsHeld
pub mod TurnHeld
pub mod TurnsGoOn
pub mod ReduceStages
pub mod StretchLaws
pub mod StretchRight
pub mod ReachRows
pub mod ReachLists
pub mod ReachBegun
pub mod ReachStates
pub mod ReachFollowed
pub mod ReachHeld
pub mod Answers
