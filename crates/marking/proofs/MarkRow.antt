-- Marking by its stage: from what the code came to, and what a caller reads off it.
use Prim.Native.Nat.{ℕ}
use mathlib.Core.Path.{◌≡◌, refl, sym, ap, subst, ◌∙◌}
use mathlib.Core.Bool.{true, cond}
use mathlib.Core.List.{List}
use lib.ListN.{length}
use Rattle.files.specs.Outcome.{Outcome, done, refused, guard, is_done, and_then}
use Rattle.std.specs.Prelude.{Result}
use Rattle.std.specs.Result.{IsErrAnd}
use Rattle.std.proofs.lemmas.Result.{err_from_is_err_and}
use Rattle.files.specs.declared.refusals.Refusal.{Refusal}
use Rattle.marking.specs.declared.Counts.{Counts}
use Rattle.files.specs.Stages.{outcome_of}
use Rattle.files.specs.Task.{Task}
use Rattle.files.specs.TaskFile.{check_task, task_of}
use Rattle.files.proofs.Guards.{goes_on_lem, stops, is_done_lem, is_refused}
use Rattle.files.proofs.Listed.{listed_itself}
use Rattle.files.proofs.Logic.{split}
use Rattle.files.proofs.Stages.{is_yes, both_yes, both_last, by_end, by_stop, by_next}
use Rattle.marking.specs.Mark.{valid_level, marks_fit, Marked, MarkBuffers, marked_buffers, mark_input, mark_stages, mark_whole, no_marks, marked_of, MarksTask, MarksFile}
use Rattle.marking.proofs.Answers.{marks_listed}

pub marked_err : (r : Result Counts Refusal) (e : Refusal) → IsErrAnd r (λ x. x ≡ e) → marked_of r ≡ no_marks (refused e)
marked_err r e h = let p = err_from_is_err_and r h in rw (p.1, p.2) refl

-- a refusal, of what is given or of the room, leaves both buffers untouched
stage_refused : (input : Outcome) (t : Task) (level : ℕ) (b : MarkBuffers) (o : Outcome) → o ≡ and_then input (marks_fit t (length b.actions) (length b.facts)) → (o.number ≡ 0 → ⊥)
    → (r : Marked) → r ≡ no_marks o → MarksTask input t level b r b
unfolding mark_stages
stage_refused input t level b o is d r q = by_stop (ap is_done (sym is) ∙ is_refused o d) (q ∙ ap no_marks is) refl

module _ (t : Task) (level : ℕ) (b : MarkBuffers) where
  -- the room for both marks
  room : Outcome
  room = marks_fit t (length b.actions) (length b.facts)

  first : and_then done room ≡ room
  first = both_yes done room (is_yes done refl)

  -- the marks of a task whose file and level are known
  module _ (o : Outcome) (is : o ≡ marks_fit t (length b.actions) (length b.facts)) (r : Marked) where
    pub marks_refused : (o.number ≡ 0 → ⊥) → r ≡ no_marks o → MarksTask done t level b r b
    unfolding room
    marks_refused d q = stage_refused done t level b o (is ∙ sym first) d r q

    pub marks_written : o.number ≡ 0 → (now : MarkBuffers) → r ≡ mark_whole t level → now ≡ marked_buffers t level b → MarksTask done t level b r now
    unfolding mark_stages room
    marks_written z now a q = by_next (ap is_done (first ∙ sym is) ∙ is_done_lem o z) (by_end a q)

  -- what marking came to
  module _ (r : Marked) (now : MarkBuffers) (k : MarksTask done t level b r now) where
    itself : is_done room ≡ true → room ≡ done
    unfolding room
    itself = listed_itself _ room (marks_listed t (length b.actions) (length b.facts))

    row_is : outcome_of (mark_stages done t level b) ≡ room
    unfolding mark_stages room
    row_is = ap (λ (o : Outcome). and_then o done) first ∙ both_last room itself

    answer_is : r ≡ cond (is_done room) (mark_whole t level) (no_marks room)
    answer_is = k.answer ∙ ap (λ (o : Outcome). cond (is_done o) (mark_whole t level) (no_marks o)) row_is

    outcome_is : r.outcome ≡ room
    outcome_is = ap (λ (x : Marked). x.outcome) answer_is ∙ split (is_done room) (λ y. rw y (sym (itself y))) (λ n. rw n refl)

    pub marks_outcome : and_then done (marks_fit t (length b.actions) (length b.facts)) ≡ r.outcome
    unfolding room
    marks_outcome = first ∙ sym outcome_is

    left_is : now ≡ cond (is_done r.outcome) (marked_buffers t level b) b
    unfolding mark_stages
    left_is = k.buffers ∙ ap (λ (o : Outcome). cond (is_done o) (marked_buffers t level b) b) marks_outcome

    pub marks_untouched : (r.outcome.number ≡ 0 → ⊥) → now ≡ b
    marks_untouched d = left_is ∙ rw (is_refused r.outcome d) refl

    module _ (z : r.outcome.number ≡ 0) where
      pub marks_whole : r ≡ mark_whole t level
      marks_whole = answer_is ∙ rw (ap is_done (sym outcome_is) ∙ is_done_lem r.outcome z) refl

      pub marks_left : now ≡ marked_buffers t level b
      marks_left = left_is ∙ rw (is_done_lem r.outcome z) refl

-- marking called alone: the file and the level, then the stage
module _ (file : List ℕ) (level : ℕ) where
  pub input_refused : (b : MarkBuffers) (o : Outcome) → o ≡ mark_input file level → (o.number ≡ 0 → ⊥) → (r : Marked) → r ≡ no_marks o → MarksFile file level b r b
  input_refused b o is d r q = stage_refused (mark_input file level) (task_of file) level b o (stops (mark_input file level) _ o is d) d r q

  module _ (read : Outcome) (e : read ≡ check_task file) where
    pub refused_file : (read.number ≡ 0 → ⊥) → read ≡ mark_input file level
    unfolding mark_input
    refused_file d = stops (check_task file) _ read e d

    module _ (z : read.number ≡ 0) where
      pub refused_level : (o : Outcome) → o ≡ guard (valid_level level) 8 0 done → o ≡ mark_input file level
      unfolding mark_input
      refused_level o q = goes_on_lem (check_task file) _ o read e z q

      -- else the marks are those of the task that the arrays hold
      pub of_task : done ≡ guard (valid_level level) 8 0 done → (n : ℕ) → n ≡ level → (b : MarkBuffers) (t : Task) → t ≡ task_of file → (r : Marked) (now : MarkBuffers) → MarksTask done t n b r now → MarksFile file level b r now
      of_task v n same b t is r now k =
          subst (λ (o : Outcome). MarksTask o (task_of file) level b r now) (refused_level done v)
          (subst (λ (x : Task). MarksTask done x level b r now) is
          (subst (λ (l : ℕ). MarksTask done t l b r now) same k))
