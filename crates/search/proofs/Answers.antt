-- The planner answers by its stages, with an outcome of its list.
use Prim.Native.Nat.{ℕ}
use mathlib.Core.Path.{◌≡◌, refl, ap, ap₂, ◌∙◌}
use mathlib.Core.Bool.{true}
use mathlib.Core.List.{List, [], ◌∷◌, map}
use mathlib.Core.Option.{Option, none, some, get_or}
use lib.ListN.{length}
use Rattle.files.specs.Outcome.{Outcome, and_then, fits}
use Rattle.files.specs.Listed.{Refusal, refused_at, short, listed, file_refusals}
use Rattle.files.specs.PlanFile.{plan_file}
use Rattle.files.specs.Stages.{beside, outcome_of}
use Rattle.files.specs.Task.{action_count, fact_count}
use Rattle.files.specs.TaskFile.{task_of}
use Rattle.files.proofs.Listed.{listed_done, listed_front, listed_behind, listed_guard, listed_both, listed_at, listed_later, task_listed}
use Rattle.files.proofs.Stages.{outcome_both, outcome_beside}
use Rattle.marking.specs.Mark.{marks_fit}
use Rattle.marking.proofs.Answers.{marks_listed}
use Rattle.reduction.specs.Reduce.{Buffers, with_files, reduced_file, origins_file, files_fit, reduce_input, reduce_stages, reduce_file_stages}
use Rattle.reduction.specs.Task.{reduced_task, origins_at}
use Rattle.reduction.proofs.Answers.{files_listed}
use Rattle.search.specs.Answers.{plan_refusals, PlanAnswers}
use Rattle.search.specs.Planner.{taken_level, count_fits, searched, searched_states, states_fit, plan_found, plan_fits, plan_made, SearchBuffers, search_buffers, search_stages, plan_stages, Lent, lent}

module _ (task : List ℕ) (level signer : ℕ) (b : Lent) where
  abbrev marks : Outcome
  marks = and_then (reduce_input task level signer) (marks_fit (task_of task) (length b.buffers.actions) (length b.buffers.facts))

  abbrev files : Outcome
  files = files_fit (reduced_task (task_of task) level) (origins_at (task_of task) level) signer (length b.buffers.reduced) (length b.buffers.origin)

  abbrev states : Outcome
  states = states_fit (searched task level) (length b.table)

  abbrev found : Outcome
  found = plan_fits (plan_found task level) signer (length b.plan)

  -- the refusals behind the file's, those of the search among them
  abbrev last : List Refusal
  last = refused_at 24 0 ∷ short (length (plan_file (plan_made task level) signer)) ∷ []

  abbrev later : List Refusal
  later = refused_at 25 0 ∷ short (searched_states task level) ∷ last

  abbrev written : List Refusal
  written =
      short (length (reduced_file (task_of task) level signer))
      ∷ short (length (origins_file (task_of task) level signer))
      ∷ later

  abbrev own : List Refusal
  own = refused_at 8 0 ∷ refused_at 7 0 ∷ short (action_count (task_of task)) ∷ short (fact_count (task_of task)) ∷ written

  -- an outcome of the search's refusals, and of the file's rooms
  behind_marks : (o : Outcome) → listed written o ≡ true → listed (plan_refusals task level signer) o ≡ true
  behind_marks o w =
      listed_behind (file_refusals 0 task) own o
      (listed_later (refused_at 8 0) _ o
      (listed_later (refused_at 7 0) _ o (listed_later (short (action_count (task_of task))) _ o (listed_later (short (fact_count (task_of task))) written o w))))

  behind_files : (o : Outcome) → listed later o ≡ true → listed written o ≡ true
  behind_files o w =
      listed_later (short (length (reduced_file (task_of task) level signer))) _ o
      (listed_later (short (length (origins_file (task_of task) level signer))) later o w)

  -- the stages' outcomes are of the list
  marks_stage_listed : listed (plan_refusals task level signer) marks ≡ true
  unfolding reduce_input
  marks_stage_listed =
      let all = plan_refusals task level signer in
      listed_both all _ _
      (listed_both all _ _ (listed_front (file_refusals 0 task) own _ (task_listed task))
      (λ _. listed_behind (file_refusals 0 task) own _
      (listed_guard own _ 8 0 _ (listed_at 8 0 _ refl)
      (λ _. listed_guard own _ 7 0 _ (listed_later (refused_at 8 0) _ _ (listed_at 7 0 _ refl)) (λ _. listed_done own)))))
      (λ _. listed_behind (file_refusals 0 task) own _
      (listed_later (refused_at 8 0) _ _
      (listed_later (refused_at 7 0) _ _
      (listed_front (short (action_count (task_of task)) ∷ short (fact_count (task_of task)) ∷ []) written _
      (marks_listed (task_of task) (length b.buffers.actions) (length b.buffers.facts))))))

  files_stage_listed : listed (plan_refusals task level signer) files ≡ true
  files_stage_listed = behind_marks files (files_listed task level signer b.buffers later)

  states_listed : listed (plan_refusals task level signer) states ≡ true
  unfolding count_fits fits searched_states
  states_listed =
      behind_marks states
      (behind_files states
      (listed_guard later _ 25 0 _ (listed_at 25 0 _ refl)
      (λ _. listed_guard later _ 21 _ _ (listed_later (refused_at 25 0) _ _ (listed_at 21 (searched_states task level) _ refl)) (λ _. listed_done later))))

  plan_listed : (plan : Option (List ℕ)) → listed (refused_at 24 0 ∷ short (length (plan_file (get_or plan []) signer)) ∷ []) (plan_fits plan signer (length b.plan)) ≡ true
  unfolding plan_fits fits
  plan_listed none = listed_at 24 0 _ refl
  plan_listed (some plan) =
      let rooms = refused_at 24 0 ∷ short (length (plan_file plan signer)) ∷ [] in
      listed_guard rooms _ 21 _ _ (listed_later (refused_at 24 0) _ _ (listed_at 21 (length (plan_file plan signer)) [] refl)) (λ _. listed_done rooms)

  found_listed : listed (plan_refusals task level signer) found ≡ true
  unfolding plan_made
  found_listed = behind_marks found (behind_files found (listed_later (refused_at 25 0) _ _ (listed_later (short (searched_states task level)) last _ (plan_listed (plan_found task level)))))

  pub row_is : outcome_of (plan_stages task level signer b) ≡ and_then (outcome_of (reduce_file_stages task level signer b.buffers)) (outcome_of (search_stages (searched task level) (plan_found task level) signer (search_buffers b.table b.plan)))
  unfolding plan_stages
  row_is =
      let first = reduce_file_stages task level signer b.buffers in
      let second = search_stages (searched task level) (plan_found task level) signer (search_buffers b.table b.plan) in
      let more : Buffers → Lent = λ x. lent x b.table b.plan in
      let further : SearchBuffers → Lent = λ x. lent (with_files (task_of task) level signer b.buffers) x.table x.plan in
      outcome_both (map (beside more) first) (map (beside further) second) ∙ ap₂ and_then (outcome_beside more first) (outcome_beside further second)

  whole_listed : listed (plan_refusals task level signer) (outcome_of (plan_stages task level signer b)) ≡ true
  unfolding reduce_stages search_stages
  whole_listed =
      let all = plan_refusals task level signer in
      ap (listed all) row_is
      ∙ listed_both all _ _
      (listed_both all _ _ marks_stage_listed (λ _. listed_both all _ _ files_stage_listed (λ _. listed_done all)))
      (λ _. listed_both all _ _ states_listed (λ _. listed_both all _ _ found_listed (λ _. listed_done all)))

pub plan_answers : (task : List ℕ) (level signer : ℕ) (b : Lent) → PlanAnswers task level signer b
plan_answers task level signer b = record { outcome = whole_listed task (taken_level level) signer b; numbers = refl; buffers = refl }
