-- Reduction called alone answers by its stages, with an outcome of its list.
use Prim.Native.Nat.{ℕ}
use mathlib.Core.Path.{◌≡◌, refl, sym, ◌∙◌}
use mathlib.Core.Bool.{true}
use mathlib.Core.List.{List, [], ◌∷◌}
use lib.Dec.{leb, ltb}
use lib.ListN.{length}
use Rattle.files.specs.Outcome.{Outcome, done, is_done, and_then, fits}
use Rattle.files.specs.Listed.{Refusal, refused_at, short, listed, file_refusals}
use Rattle.files.specs.Accepted.{valid_signer}
use Rattle.files.specs.Stages.{outcome_of}
use Rattle.files.specs.Task.{Task, action_count, fact_count}
use Rattle.files.specs.TaskFile.{check_task, task_of}
use Rattle.files.proofs.Listed.{listed_done, listed_front, listed_behind, listed_guard, listed_both, listed_at, listed_later, task_listed}
use Rattle.files.proofs.Guards.{guard_passes}
use Rattle.files.proofs.Logic.{and_split}
use Rattle.files.proofs.Stages.{fits_in}
use Rattle.marking.specs.Mark.{marks_fit}
use Rattle.marking.proofs.Answers.{marks_listed}
use Rattle.reduction.specs.Answers.{reduce_refusals, ReduceAnswers, LongEnough}
use Rattle.reduction.specs.Reduce.{Buffers, with_files, reduced_file, origins_file, files_fit, valid_reduction, reduce_input, reduce_stages, reduce_file_stages, reduce_whole, reduce, reduce_after}
use Rattle.reduction.specs.Task.{reduced_task, origins_at}

module _ (task : List ℕ) (level signer : ℕ) (b : Buffers) where
  abbrev t : Task
  t = task_of task

  abbrev marks : Outcome
  marks = and_then (reduce_input task level signer) (marks_fit t (length b.actions) (length b.facts))

  abbrev files : Outcome
  files = files_fit (reduced_task t level) (origins_at t level) signer (length b.reduced) (length b.origin)

  -- the refusals behind the file's
  abbrev own : List Refusal
  own =
      refused_at 8 0
      ∷ refused_at 7 0
      ∷ short (action_count t)
      ∷ short (fact_count t)
      ∷ short (length (reduced_file t level signer))
      ∷ short (length (origins_file t level signer))
      ∷ []

  pub files_listed : (more : List Refusal) → listed (short (length (reduced_file t level signer)) ∷ short (length (origins_file t level signer)) ∷ more) files ≡ true
  unfolding files_fit fits reduced_file origins_file
  files_listed more =
      let rooms = short (length (reduced_file t level signer)) ∷ short (length (origins_file t level signer)) ∷ more in
      listed_guard rooms _ 21 _ _ (listed_at 21 (length (reduced_file t level signer)) _ refl)
      (λ _. listed_guard rooms _ 21 _ _ (listed_later (short (length (reduced_file t level signer))) _ _ (listed_at 21 (length (origins_file t level signer)) _ refl)) (λ _. listed_done rooms))

  marks_stage_listed : listed (reduce_refusals task level signer) marks ≡ true
  unfolding reduce_input
  marks_stage_listed =
      let all = reduce_refusals task level signer in
      listed_both all _ _
      (listed_both all _ _ (listed_front (file_refusals 0 task) own _ (task_listed task))
      (λ _. listed_behind (file_refusals 0 task) own _
      (listed_guard own _ 8 0 _ (listed_at 8 0 _ refl)
      (λ _. listed_guard own _ 7 0 _ (listed_later (refused_at 8 0) _ _ (listed_at 7 0 _ refl)) (λ _. listed_done own)))))
      (λ _. listed_behind (file_refusals 0 task) own _
      (listed_later (refused_at 8 0) _ _
      (listed_later (refused_at 7 0) _ _
      (listed_front (short (action_count t) ∷ short (fact_count t) ∷ []) (short (length (reduced_file t level signer)) ∷ short (length (origins_file t level signer)) ∷ []) _
      (marks_listed t (length b.actions) (length b.facts))))))

  files_stage_listed : listed (reduce_refusals task level signer) files ≡ true
  files_stage_listed =
      listed_behind (file_refusals 0 task) own _
      (listed_later (refused_at 8 0) _ _ (listed_later (refused_at 7 0) _ _ (listed_later (short (action_count t)) _ _ (listed_later (short (fact_count t)) _ _ (files_listed [])))))

  stages_listed : listed (reduce_refusals task level signer) (outcome_of (reduce_file_stages task level signer b)) ≡ true
  unfolding reduce_stages
  stages_listed =
      let all = reduce_refusals task level signer in
      listed_both all _ _ marks_stage_listed (λ _. listed_both all _ _ files_stage_listed (λ _. listed_done all))

  pub reduce_answers : ReduceAnswers task level signer b
  reduce_answers = record { outcome = stages_listed; numbers = refl; buffers = refl }

-- long enough buffers, an accepted task, a valid level and signer: nothing is refused
module _ (task : List ℕ) (level signer : ℕ) (b : Buffers) (e : check_task task ≡ done) (v : valid_reduction level ≡ true) (s : valid_signer signer ≡ true) (long : LongEnough task level signer b) where
  pub marks_fit_lem : marks_fit (task_of task) (length b.actions) (length b.facts) ≡ done
  unfolding marks_fit
  marks_fit_lem = fits_in (action_count (task_of task)) (length b.actions) _ long.actions ∙ fits_in (fact_count (task_of task)) (length b.facts) done long.facts

  input_passes : reduce_input task level signer ≡ done
  unfolding reduce_input and_then is_done valid_signer
  input_passes =
      let signed = (and_split (leb 1 signer) (ltb signer 4294967296) s).0 in
      rw e (sym (guard_passes (valid_reduction level) 8 0 _ done v (guard_passes (leb 1 signer) 7 0 _ done signed refl)))

  files_fit_lem : files_fit (reduced_task (task_of task) level) (origins_at (task_of task) level) signer (length b.reduced) (length b.origin) ≡ done
  unfolding files_fit reduced_file origins_file
  files_fit_lem = fits_in _ (length b.reduced) _ long.reduced ∙ fits_in _ (length b.origin) done long.origin

  pub stages_fit : outcome_of (reduce_file_stages task level signer b) ≡ done
  unfolding reduce_stages and_then is_done
  stages_fit = rw (input_passes, marks_fit_lem, files_fit_lem) refl

  pub buffers_fit : reduce_after task level signer b ≡ with_files (task_of task) level signer b
  unfolding reduce_stages and_then is_done
  buffers_fit = rw (input_passes, marks_fit_lem, files_fit_lem) refl

  pub reduce_fits : reduce task level signer b ≡ reduce_whole (task_of task) level signer
  unfolding is_done
  reduce_fits = rw stages_fit refl
