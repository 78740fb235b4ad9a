-- How far a text is read, and a number that is read there.
use Rattle.std.specs.Prelude.{ℕ}
use Rattle.files.specs.Outcome.{Outcome}

-- up to an offset, or up to a refusal
pub record Cursor : Type 0 where
  pub outcome : Outcome
  pub at : ℕ

-- a number that was read, 0 beside a refusal
pub record ReadNumber : Type 0 where
  pub cursor : Cursor
  pub value : ℕ
