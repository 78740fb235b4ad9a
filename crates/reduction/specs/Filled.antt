-- The reduced task and its origins as arrays, and their files as they are written.
use Rattle.std.specs.Prelude.{ℕ, ◌≤◌, ◌<◌, ◌≡◌, Bool, List, length, get_or, Result, IfOk}
use Rattle.files.specs.Below.{bit, chosen_below}
use Rattle.files.specs.Dense.{row_numbers, held, held_origin}
use Rattle.files.specs.declared.arrays.Arrays.{Arrays}
use Rattle.files.specs.declared.arrays.OriginArrays.{OriginArrays}
use Rattle.files.specs.OriginFile.{Origin, origin_file}
use Rattle.files.specs.Outcome.{outcome_of, after}
use Rattle.files.specs.declared.refusals.Refusal.{Refusal}
use Rattle.files.specs.Task.{Task}
use Rattle.files.specs.TaskFile.{task_file}
use Rattle.reduction.specs.Clauses.{OriginFor}
use Rattle.reduction.specs.Reduce.{files_fit}
use Rattle.reduction.specs.ReducedBy.{reduced_by, origin_by}
use Rattle.reduction.specs.Turns.{struck_to}
use Rattle.reduction.specs.declared.arrays.Lengths.{Lengths}

-- a list has the marks of the actions of A, of which there are `count` at most
abbrev pub Marks : List ℕ → ℕ → (ℕ → Bool) → Type 0
Marks kept count A = (a : ℕ) → a < count → get_or kept a 0 ≡ bit (A a)

-- arrays hold the reduced task and its origins, for the actions that are marked
pub record Fills (t : Task) (kept : List ℕ) (count : ℕ) (d : Arrays) (o : OriginArrays) : Type 0 where
  pub within : OriginFor d o
  pub task : (A : ℕ → Bool) → Marks kept count A → held d ≡ reduced_by t A
  pub origins : (A : ℕ → Bool) → Marks kept count A → held_origin o ≡ origin_by t A

-- how many bytes both files have
abbrev pub file_lengths : Task → Origin → ℕ → Lengths
file_lengths t origins signer = record { reduced = length (task_file t signer); origin = length (origin_file origins signer) }

-- the files of a task and its origins are written where both buffers are long enough
pub record Writes (t : Task) (origins : Origin) (signer : ℕ) (reduced₀ origin₀ : List ℕ) (w : Result Lengths Refusal) (reduced₁ origin₁ : List ℕ) : Type 0 where
  pub outcome : outcome_of w ≡ files_fit t origins signer (length reduced₀) (length origin₀)
  pub lengths : IfOk w (λ l. l ≡ file_lengths t origins signer)
  pub reduced : reduced₁ ≡ after (outcome_of w) (task_file t signer) reduced₀
  pub origin : origin₁ ≡ after (outcome_of w) (origin_file origins signer) origin₀

-- the same of the reduced task, for the actions that are marked
abbrev pub WritesReduced : Task → List ℕ → ℕ → ℕ → List ℕ → List ℕ → Result Lengths Refusal → List ℕ → List ℕ → Type 0
WritesReduced t kept count signer reduced₀ origin₀ w reduced₁ origin₁ =
    (A : ℕ → Bool) → Marks kept count A → Writes (reduced_by t A) (origin_by t A) signer reduced₀ origin₀ w reduced₁ origin₁

-- arrays hold the task of others with the chosen actions alone
pub record TaskChosen (chosen : List ℕ) (count : ℕ) (from to : Arrays) : Type 0 where
  pub variables : to.variables ≡ from.variables
  pub actions : to.actions ≡ count
  pub sizes : to.sizes ≡ from.sizes
  pub task : (R : ℕ → Bool) → from.variables ≤ 64 → row_numbers chosen 0 count ≡ chosen_below from.actions R → held to ≡ struck_to (held from) R
