-- Laws about the crate's definitions, and general ones that the crates above use, in groups, lower ones first.

-- all definitions under one name
pub mod Computes
-- tests, counts and lists of numbers
pub mod Logic
pub mod BelowLaws
pub mod Truth
pub mod CountOrder
pub mod Distinct
pub mod Tabulate
pub mod Filling
pub mod Countdown
pub mod LoopCounts
-- outcomes: which way a test goes, rows of stages, and outcomes that are listed
pub mod Guards
pub mod Done
pub mod Stages
pub mod Listed
pub mod ReadAs
-- the rows of dense arrays, and numbers chosen into one
pub mod RowLaws
pub mod RowValues
pub mod Choosing
-- bytes that are written, and how many
pub mod Placed
pub mod Lengths
pub mod Writing
pub mod WritingTasks
pub mod WritingOrigins
-- the checks, the decoder and the reader step by step
pub mod Steps
pub mod Decoding
-- bytes, numbers and records that stand in a file
pub mod Stands
pub mod RecordStands
pub mod Numbers
pub mod SignOff
-- what an accepted file holds
pub mod Valid
pub mod Rising
pub mod ValidOrigin
pub mod Variables
pub mod Pairs
pub mod Actions
pub mod Origins
pub mod TaskLaid
pub mod TaskChecked
-- files that read back, kinds of file, and the arrays that hold a task
pub mod TaskRoundTrip
pub mod OriginRoundTrip
pub mod PlanRoundTrip
pub mod KindsRight
pub mod HeldTask
pub mod HeldLaws
