-- The reduction of every accepted task, at every level: what it preserves, and that its task and origins are accepted.
use Prim.Native.Nat.{ℕ, ◌≤◌}
use mathlib.Core.Path.{◌≡◌, ap}
use mathlib.Core.Bool.{true, false}
use mathlib.Core.List.{map}
use lib.Dec.{eqb}
use lib.ListN.{length, get_or}
use Rattle.files.specs.Accepted.{accepted_task, accepted_origin}
use Rattle.files.specs.OriginFile.{Origin}
use Rattle.files.specs.Task.{Task, action_count}
use Rattle.files.specs.TaskFile.{task_file}
use Rattle.files.proofs.Logic.{split}
use Rattle.files.proofs.Valid.{task_valid}
use Rattle.reduction.specs.Preserved.{ReductionPreserves}
use Rattle.reduction.specs.ReducedBy.{reduced_by, origin_by, kept_at}
use Rattle.reduction.specs.Task.{mark_level, reduced_task, origins_at, turn_count, by_original}
use Rattle.reduction.specs.Turns.{originals, turning}
use Rattle.reduction.proofs.KeptActions.{original_of}
use Rattle.reduction.proofs.OriginFits.{fits_accepted}
use Rattle.reduction.proofs.Preservation.{kept_preserves}
use Rattle.reduction.proofs.ReducedLength.{reduced_file_length}
use Rattle.reduction.proofs.ReducedValid.{reduced_accepted}
use Rattle.reduction.proofs.TurnOrigins.{reduced_fits}
use Rattle.reduction.proofs.TurnsRight.{turns_right}

-- level 5, and the others
module _ (t : Task) (level : ℕ) (five : eqb level 5 ≡ true) where
  pub five_marks : mark_level level ≡ 4
  unfolding mark_level
  five_marks = rw five

  pub five_task : reduced_task t level ≡ (turning t).task
  unfolding reduced_task
  five_task = rw five

  pub five_origins : origins_at t level ≡ (turning t).origin
  unfolding origins_at
  five_origins = rw five

  five_numbers : by_original t level ≡ originals (turning t).origin
  unfolding by_original originals
  five_numbers = ap (λ (o : Origin). λ plan. map (λ n. get_or o.actions n 0) plan) five_origins

  pub five_turns : turn_count t level ≡ (turning t).turns
  unfolding turn_count
  five_turns = rw five

module _ (t : Task) (level : ℕ) (other : eqb level 5 ≡ false) where
  pub other_marks : mark_level level ≡ level
  unfolding mark_level
  other_marks = rw other

  pub other_task : reduced_task t level ≡ reduced_by t (kept_at t level)
  unfolding reduced_task
  other_task = rw other

  pub other_origins : origins_at t level ≡ origin_by t (kept_at t level)
  unfolding origins_at
  other_origins = rw other

  other_numbers : by_original t level ≡ map (original_of t (kept_at t level))
  unfolding by_original origin_by
  other_numbers = ap (λ (o : Origin). λ plan. map (λ n. get_or o.actions n 0) plan) other_origins

  pub other_turns : turn_count t level ≡ 0
  unfolding turn_count
  other_turns = rw other

-- demand 3, its first half, for every accepted task and at every level
pub reduction_preserves : ReductionPreserves
reduction_preserves t level ok =
    split (eqb level 5)
    (λ five. rw (five_task t level five, five_numbers t level five) (turns_right t ok).preserves)
    (λ other. rw (other_task t level other, other_numbers t level other) (kept_preserves t level (task_valid t ok)))

module _ (t : Task) (level : ℕ) (ok : accepted_task t ≡ true) where
  -- the reduced task is accepted in its turn, and so are its origins
  pub reduction_accepted : accepted_task (reduced_task t level) ≡ true
  reduction_accepted =
      split (eqb level 5)
      (λ five. rw (five_task t level five) (turns_right t ok).accepted)
      (λ other. rw (other_task t level other) (reduced_accepted t (kept_at t level) ok))

  pub reduction_origins : accepted_origin (origins_at t level) ≡ true
  reduction_origins =
      split (eqb level 5)
      (λ five. rw (five_origins t level five) (turns_right t ok).origin_accepted)
      (λ other.
      let A = kept_at t level in
      rw (other_origins t level other)
      (fits_accepted t (reduced_by t A) (origin_by t A) (reduced_fits t A) (task_valid t ok) (task_valid (reduced_by t A) (reduced_accepted t A ok))))

  pub reduction_as_many : length (origins_at t level).actions ≡ action_count (reduced_task t level)
  reduction_as_many =
      split (eqb level 5)
      (λ five. rw (five_task t level five, five_origins t level five) (turns_right t ok).origin_actions)
      (λ other. rw (other_task t level other, other_origins t level other) (reduced_fits t (kept_at t level)).actions_long)

  pub reduction_no_longer : (signer : ℕ) → length (task_file (reduced_task t level) signer) ≤ length (task_file t signer)
  reduction_no_longer signer =
      split (eqb level 5)
      (λ five. rw (five_task t level five) ((turns_right t ok).no_longer signer))
      (λ other. rw (other_task t level other) (reduced_file_length t (kept_at t level) signer))
