-- Laws about the crate's definitions, in groups, lower ones first.

-- all definitions under one name, and the examples
pub mod Computes
pub mod Examples
-- fields: what is written is read, and what is read was written
pub mod Written
pub mod FrontLaws
pub mod WordLaws
pub mod LineLaws
pub mod NumeralLaws
pub mod NumberLaws
pub mod UnfinishedLaws
pub mod FlagLaws
pub mod SignedLaws
pub mod FieldLaws
-- formats: how a text is read by one, and its traces
pub mod Traces
pub mod ReadingLaws
pub mod ReadingSteps
pub mod ReadingTraces
pub mod ReadingListed
pub mod ReadingPlaces
pub mod RepeatReading
-- the traces of a text are the printings of what texts state
pub mod PrintsLaws
pub mod ListPrints
pub mod PartPrints
pub mod StartPrints
pub mod OperatorPrints
pub mod TextPrints
-- the task that a text states: its lists in order, its meaning, its length, and the arrays that hold it
pub mod OrderLaws
pub mod OrderedMeans
pub mod RowsInOrder
pub mod Supported
pub mod TextLengths
pub mod StatedShorter
pub mod StatedLaws
pub mod StatedHeld
-- what is promised of texts, places and files
pub mod Right
pub mod Answers
pub mod CallLaws
pub mod FilesRight
-- the code's steps: cursors and numbers
pub mod CursorLaws
pub mod Calls
pub mod NumberReading
pub mod StepReading
pub mod CountReading
pub mod InsideReading
-- the code's steps: variables, groups and lists of pairs
pub mod VariableReading
pub mod GroupReading
pub mod RowReading
pub mod ListReading
pub mod ConditionsReading
pub mod StartReading
-- the code's steps: operators
pub mod EffectReading
pub mod EffectsReading
pub mod OperatorReading
pub mod OperatorsReading
-- the code's steps: the whole text, and the call
pub mod TextParts
pub mod FrontReading
pub mod BodyReading
pub mod TextReading
pub mod TranslateLaws
