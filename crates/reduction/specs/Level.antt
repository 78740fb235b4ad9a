-- The levels of reduction, and their numbers.
use Rattle.std.specs.Prelude.{ℕ, ◌≡◌, Result, IfOk}
use Rattle.files.specs.declared.refusals.Refusal.{Refusal}
use Rattle.files.specs.Outcome.{done, guard, outcome_of}
use Rattle.marking.specs.Levels as marking
use Rattle.reduction.specs.declared.level.Level.{Level}
use Rattle.reduction.specs.declared.level.Level.TheVariants.{Once, InTurns}
use Rattle.reduction.specs.Reduce.{valid_reduction}

abbrev pub level_number : Level → ℕ
level_number (Once level) = marking.level_number level
level_number InTurns = 5

-- the level with a number; 8 where there is none
abbrev pub LevelOf : ℕ → Result Level Refusal → Type 0
LevelOf number r = (outcome_of r ≡ guard (valid_reduction number) 8 0 done) × IfOk r (λ l. level_number l ≡ number)
