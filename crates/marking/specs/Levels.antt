-- The levels of marking, and their numbers.
use Rattle.std.specs.Prelude.{ℕ, ◌≡◌, Result, IfOk, eqb, leb}
use Rattle.files.specs.declared.refusals.Refusal.{Refusal}
use Rattle.files.specs.Outcome.{done, guard, outcome_of}
use Rattle.marking.specs.declared.levels.Level.{Level}
use Rattle.marking.specs.declared.levels.Level.TheVariants.{One, Two, Three, Four}
use Rattle.marking.specs.Mark.{valid_level}

abbrev pub level_number : Level → ℕ
level_number One = 1
level_number Two = 2
level_number Three = 3
level_number Four = 4

-- the level with a number; 8 where there is none
abbrev pub LevelOf : ℕ → Result Level Refusal → Type 0
LevelOf number r = (outcome_of r ≡ guard (valid_level number) 8 0 done) × IfOk r (λ l. level_number l ≡ number)

-- a level marks as a number does
pub record MarksLike (number level : ℕ) : Type 0 where
  pub whole : eqb level 1 ≡ eqb number 1
  pub links : leb 3 level ≡ leb 3 number
  pub covering : eqb level 4 ≡ eqb number 4
