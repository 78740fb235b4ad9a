-- Marking called alone answers by its stage, with an outcome of its list.
use Prim.Native.Nat.{ℕ}
use mathlib.Core.Path.{◌≡◌, refl, sym}
use mathlib.Core.Bool.{true}
use mathlib.Core.List.{List, [], ◌∷◌}
use lib.ListN.{length}
use Rattle.files.specs.Listed.{Refusal, listed, refused_at, short, file_refusals}
use Rattle.files.specs.Outcome.{done, is_done, and_then, fits}
use Rattle.files.specs.Stages.{outcome_of}
use Rattle.files.specs.Task.{Task, action_count, fact_count}
use Rattle.files.specs.TaskFile.{check_task, task_of}
use Rattle.files.proofs.Guards.{guard_passes}
use Rattle.files.proofs.Listed.{listed_done, listed_front, listed_behind, listed_guard, listed_both, listed_at, listed_later, task_listed}
use Rattle.marking.specs.Answers.{mark_refusals, MarkAnswers}
use Rattle.marking.specs.Mark.{valid_level, marks_fit, MarkBuffers, marked_buffers, mark_input, mark_stages, mark_file_stages, mark_whole, mark, mark_after}

pub marks_listed : (t : Task) (a f : ℕ) → listed (short (action_count t) ∷ short (fact_count t) ∷ []) (marks_fit t a f) ≡ true
unfolding marks_fit fits
marks_listed t a f =
    let rooms = short (action_count t) ∷ short (fact_count t) ∷ [] in
    listed_guard rooms _ 21 _ _ (listed_at 21 (action_count t) _ refl)
    (λ _. listed_guard rooms _ 21 _ _ (listed_later (short (action_count t)) _ _ (listed_at 21 (fact_count t) _ refl)) (λ _. listed_done rooms))

module _ (task : List ℕ) (level : ℕ) (b : MarkBuffers) where
  -- the refusals behind the file's
  abbrev own : List Refusal
  own = refused_at 8 0 ∷ short (action_count (task_of task)) ∷ short (fact_count (task_of task)) ∷ []

  mark_listed : listed (mark_refusals task) (outcome_of (mark_file_stages task level b)) ≡ true
  unfolding mark_stages mark_input
  mark_listed =
      let all = mark_refusals task in
      listed_both all _ _
      (listed_both all _ _
      (listed_both all _ _ (listed_front (file_refusals 0 task) own _ (task_listed task))
      (λ _. listed_behind (file_refusals 0 task) own _ (listed_guard own _ 8 0 _ (listed_at 8 0 _ refl) (λ _. listed_done own))))
      (λ _. listed_behind (file_refusals 0 task) own _ (listed_later (refused_at 8 0) _ _ (marks_listed (task_of task) (length b.actions) (length b.facts)))))
      (λ _. listed_done all)

  pub mark_answers : MarkAnswers task level b
  mark_answers = record { outcome = mark_listed; numbers = refl; buffers = refl }

-- an accepted task, a valid level and room for both marks: nothing is refused
module _ (task : List ℕ) (level : ℕ) (b : MarkBuffers) (e : check_task task ≡ done) (v : valid_level level ≡ true) (fit : marks_fit (task_of task) (length b.actions) (length b.facts) ≡ done) where
  input_passes : mark_input task level ≡ done
  unfolding mark_input and_then is_done
  input_passes = rw e (sym (guard_passes (valid_level level) 8 0 _ done v refl))

  pub mark_fits : mark task level b ≡ mark_whole (task_of task) level
  unfolding mark_stages and_then is_done
  mark_fits = rw (input_passes, fit) refl

  pub marked_fits : mark_after task level b ≡ marked_buffers (task_of task) level b
  unfolding mark_stages and_then is_done
  marked_fits = rw (input_passes, fit) refl
