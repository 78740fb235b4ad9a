-- Reduction's stages: its answer and its buffers, from what marking and the writing of both files came to.
use Prim.Native.Nat.{ℕ, ◌≤◌, ◌<◌}
use mathlib.Core.Path.{◌≡◌, refl, sym, ap, subst, subst⁻¹, ◌∙◌}
use mathlib.Core.Bool.{true, false}
use mathlib.Core.List.{List, ◌++◌}
use native.Mathlib.Omega.{arith}
use lib.Dec.{eqb, leb}
use lib.ListN.{length, get_or, drop, length-append, get_or-append}
use borrow.Author.Tests.{le-leb, lt-leb}
use Rattle.std.specs.Prelude.{Result, Ok, Err}
use Rattle.std.specs.Result.{IsErrAnd}
use Rattle.std.proofs.lemmas.Result.{err_from_is_err_and}
use Rattle.files.specs.Outcome.{Outcome, done, refusal, refused, guard, outcome_of, is_done, and_then, overwrite}
use Rattle.files.specs.Accepted.{accepted_task}
use Rattle.files.specs.Below.{bit}
use Rattle.files.specs.Dense.{held, held_origin}
use Rattle.files.specs.declared.arrays.Arrays.{Arrays}
use Rattle.files.specs.declared.arrays.OriginArrays.{OriginArrays}
use Rattle.files.specs.OriginFile.{Origin}
use Rattle.files.specs.declared.refusals.Refusal.{Refusal}
use Rattle.files.specs.Task.{Task}
use Rattle.files.specs.TaskFile.{check_task, task_of}
use Rattle.files.proofs.BelowLaws.{map_entry}
use Rattle.files.proofs.Guards.{goes_on_lem, stops, guard_passes, guard_refuses, is_done_lem, is_refused, refused_number, after_done, after_refused}
use Rattle.files.proofs.Logic.{split}
use Rattle.files.proofs.Stages.{by_end, by_stop, by_next}
use Rattle.files.proofs.Valid.{task_valid}
use Rattle.marking.specs.declared.levels.Level.{Level}
use Rattle.marking.specs.declared.levels.Level.TheVariants.{One, Two, Three, Four}
use Rattle.marking.specs.Levels.{level_number}
use Rattle.marking.specs.Rounds.{marking}
use Rattle.marking.specs.Mark.{marks_fit, action_marks_of, Marked, MarkBuffers, mark_buffers, marked_buffers, mark_whole, MarksTask}
use Rattle.files.proofs.HeldTask.{actions_held}
use Rattle.marking.proofs.MarkLaws.{actions_long, action_marks_long}
use Rattle.marking.proofs.MarkRow.{marks_outcome, marks_untouched, marks_whole, marks_left}
use Rattle.reduction.proofs.Levels.{five_marks, five_task, five_origins, other_marks, other_task, other_origins}
use Rattle.reduction.specs.declared.Counts.{Counts}
use Rattle.reduction.specs.Reduce.{Reduced, Buffers, buffers, reduced_file, origins_file, files_fit, valid_reduction, reduce_input, reduce_stages, no_files, reduced_of, ReducesTask, Reduces}
use Rattle.reduction.specs.declared.arrays.Lengths.{Lengths}
use Rattle.reduction.specs.Clauses.{MarksWithin}
use Rattle.reduction.specs.Filled.{Marks, Writes}
use Rattle.reduction.specs.ReducedBy.{reduced_by, origin_by, kept_at}
use Rattle.reduction.specs.TurnsHeld.{TurnsLeave}
use Rattle.reduction.proofs.Within.{limits_held}
use Rattle.reduction.specs.Task.{mark_level, reduced_task, origins_at, turn_count}

-- an answer that hands on a refusal
pub reduced_err : (r : Result Counts Refusal) (e : Refusal) → IsErrAnd r (λ x. x ≡ e) → reduced_of r ≡ no_files (refused e)
reduced_err r e h = let p = err_from_is_err_and r h in rw (p.1, p.2) refl

-- the files of the same task and origins
pub writes_alike : (h t : Task) (g o : Origin) (signer : ℕ) (reduced origin : List ℕ) (w : Result Lengths Refusal) (reduced' origin' : List ℕ) → h ≡ t → g ≡ o
    → Writes h g signer reduced origin w reduced' origin' → Writes t o signer reduced origin w reduced' origin'
writes_alike h t g o signer reduced origin w reduced' origin' e f k =
    subst (λ (x : Task). Writes x o signer reduced origin w reduced' origin') e (subst (λ (y : Origin). Writes h y signer reduced origin w reduced' origin') f k)

-- the files of the reduced task at a level that has no turns
pub reduced_writes : (t : Task) (level : ℕ) → eqb level 5 ≡ false → {signer : ℕ} {reduced origin : List ℕ} {w : Result Lengths Refusal} {reduced' origin' : List ℕ}
    → Writes (reduced_by t (kept_at t level)) (origin_by t (kept_at t level)) signer reduced origin w reduced' origin' → Writes (reduced_task t level) (origins_at t level) signer reduced origin w reduced' origin'
reduced_writes t level other k = writes_alike _ _ _ _ _ _ _ _ _ _ (sym (other_task t level other)) (sym (other_origins t level other)) k

-- the same at level 5: marking, and the files of what the turns left
pub marks_in_turns : (t : Task) (level : ℕ) → level ≡ 4 → {b now : MarkBuffers} {r : Marked} → MarksTask done t level b r now → MarksTask done t (mark_level 5) b r now
marks_in_turns t level four {b} {now} {r} m = subst (λ (l : ℕ). MarksTask done t l b r now) (four ∙ sym (five_marks t 5 refl)) m

pub turned_writes : (t : Task) {d : Arrays} {o : OriginArrays} {turns : ℕ} → TurnsLeave t d o turns → {signer : ℕ} {reduced origin : List ℕ} {w : Result Lengths Refusal} {reduced' origin' : List ℕ}
    → Writes (held d) (held_origin o) signer reduced origin w reduced' origin' → Writes (reduced_task t 5) (origins_at t 5) signer reduced origin w reduced' origin'
turned_writes t k w = writes_alike _ _ _ _ _ _ _ _ _ _ (k.task ∙ sym (five_task t 5 refl)) (k.origin ∙ sym (five_origins t 5 refl)) w

-- the marks that a buffer holds
module _ (d : Arrays) (accepted : accepted_task (held d) ≡ true) (level : ℕ) (before now : MarkBuffers) (marked : Marked)
    (m : MarksTask done (held d) level before marked now) (z : marked.outcome.number ≡ 0) where
  abbrev bytes : List ℕ
  bytes = action_marks_of (held d) level

  filled : now.actions ≡ bytes ++ drop (length bytes) before.actions
  unfolding overwrite
  filled = ap (λ (b : MarkBuffers). b.actions) (marks_left _ _ _ _ _ m z)

  pub marks_within : MarksWithin now.actions d.actions
  marks_within =
      let ok = task_valid (held d) accepted in
      record {
        few = (limits_held d accepted).few_actions;
        within = omega (arith, ap length filled, length-append bytes (drop (length bytes) before.actions), action_marks_long d ok level, actions_held d);
      }

  pub kept_marks : (kept : List ℕ) → ((a : ℕ) → a < d.actions → get_or kept a 0 ≡ get_or now.actions a 0) → Marks kept d.actions (kept_at (held d) level)
  unfolding action_marks_of kept_at
  kept_marks kept copied a l =
      let ok = task_valid (held d) accepted in
      copied a l
      ∙ ap (λ (l : List ℕ). get_or l a 0) filled
      ∙ get_or-append bytes (drop (length bytes) before.actions) 0 a (omega (arith, action_marks_long d ok level, actions_held d))
      ∙ map_entry bit (marking (held d) level).marks.actions a 0 false (omega (arith, actions_long d ok level, actions_held d))

-- marking at a level that has no turns
pub marks_at : (t : Task) (level : ℕ) → eqb level 5 ≡ false → {b now : MarkBuffers} {r : Marked} → MarksTask done t level b r now → MarksTask done t (mark_level level) b r now
marks_at t level other {b} {now} {r} m = subst⁻¹ (λ (l : ℕ). MarksTask done t l b r now) (other_marks t level other) m

-- the stages, from what marking and the writing of both files came to
module _ (t : Task) (level signer : ℕ) (b : Buffers) (marked : Marked) (actions facts : List ℕ) (m : MarksTask done t (mark_level level) (mark_buffers b.actions b.facts) marked (mark_buffers actions facts)) where
  -- the first stage's outcome is marking's
  first_is : and_then done (marks_fit t (length b.actions) (length b.facts)) ≡ marked.outcome
  first_is = marks_outcome t (mark_level level) (mark_buffers b.actions b.facts) marked (mark_buffers actions facts) m

  pub marks_refused : (e : Refusal) → marked.outcome ≡ refused e → (r : Reduced) → r ≡ no_files (refused e) → ReducesTask done t level signer b r (buffers actions facts b.reduced b.origin)
  unfolding reduce_stages
  marks_refused e is r q =
      let d : marked.outcome.number ≡ 0 → ⊥ = λ z. refused_number e (ap (λ (o : Outcome). o.number) (sym is) ∙ z) in
      let same = marks_untouched t (mark_level level) (mark_buffers b.actions b.facts) marked (mark_buffers actions facts) m d in
      by_stop (ap is_done first_is ∙ is_refused marked.outcome d) (q ∙ ap no_files (sym is ∙ sym first_is))
      (λ i. buffers (same i).actions (same i).facts b.reduced b.origin)

  module _ (z : marked.outcome.number ≡ 0) (w : Result Lengths Refusal) (reduced origin : List ℕ) (k : Writes (reduced_task t level) (origins_at t level) signer b.reduced b.origin w reduced origin) where
    marks_are : mark_buffers actions facts ≡ marked_buffers t (mark_level level) (mark_buffers b.actions b.facts)
    marks_are = marks_left t (mark_level level) (mark_buffers b.actions b.facts) marked (mark_buffers actions facts) m z

    first_done : is_done (and_then done (marks_fit t (length b.actions) (length b.facts))) ≡ true
    first_done = ap is_done first_is ∙ is_done_lem marked.outcome z

    second_is : files_fit (reduced_task t level) (origins_at t level) signer (length b.reduced) (length b.origin) ≡ outcome_of w
    second_is = sym k.outcome

    pub files_refused : (e : Refusal) → w ≡ Err e → (r : Reduced) → r ≡ no_files (refused e) → ReducesTask done t level signer b r (buffers actions facts reduced origin)
    unfolding reduce_stages
    files_refused e is r q =
        let out : outcome_of w ≡ refused e = ap outcome_of is in
        let d : (outcome_of w).number ≡ 0 → ⊥ = λ y. refused_number e (ap (λ (o : Outcome). o.number) (sym out) ∙ y) in
        by_next first_done
        (by_stop (ap is_done second_is ∙ is_refused (outcome_of w) d) (q ∙ ap no_files (sym out ∙ sym second_is))
        (λ i. buffers (marks_are i).actions (marks_are i).facts ((k.reduced ∙ after_refused (outcome_of w) _ b.reduced d) i) ((k.origin ∙ after_refused (outcome_of w) _ b.origin d) i)))

    lengths : marked ≡ mark_whole t (mark_level level)
    lengths = marks_whole t (mark_level level) (mark_buffers b.actions b.facts) marked (mark_buffers actions facts) m z

    pub files_written : (l : Lengths) → w ≡ Ok l → (turns : ℕ) → turns ≡ turn_count t level
        → ReducesTask done t level signer b (record { outcome = done; action_marks = marked.action_marks; fact_marks = marked.fact_marks; reduced = l.reduced; origin = l.origin; rounds = marked.rounds; turns = turns }) (buffers actions facts reduced origin)
    unfolding reduce_stages reduced_file origins_file
    files_written l is turns n =
        let y : (outcome_of w).number ≡ 0 = ap (λ (r : Result Lengths Refusal). (outcome_of r).number) is in
        let both = rw is at k.lengths in
        by_next first_done
        (by_next (ap is_done second_is ∙ is_done_lem (outcome_of w) y)
        (by_end
        (λ i. record { outcome = done; action_marks = (lengths i).action_marks; fact_marks = (lengths i).fact_marks; reduced = (both i).reduced; origin = (both i).origin; rounds = (lengths i).rounds; turns = n i })
        (λ i. buffers (marks_are i).actions (marks_are i).facts ((k.reduced ∙ after_done (outcome_of w) _ b.reduced y) i) ((k.origin ∙ after_done (outcome_of w) _ b.origin y) i))))

-- a level that is there
pub level_valid : (level : ℕ) → done ≡ guard (valid_reduction level) 8 0 done → valid_reduction level ≡ true
level_valid level e =
    split (valid_reduction level) (λ y. y)
    (λ n.
    let is = guard_refuses (valid_reduction level) 8 0 done (refusal 8 0) n refl in
    let x : ◌≡◌ {A = ℕ} 0 8 = ap (λ (o : Outcome). o.number) (e ∙ sym is) in absurd (omega arith))

-- the stages at an equal level
pub at_level : {level other : ℕ} → level ≡ other → (t : Task) (signer : ℕ) (b : Buffers) (r : Reduced) (now : Buffers) → ReducesTask done t other signer b r now → ReducesTask done t level signer b r now
at_level e t signer b r now k = subst⁻¹ (λ (l : ℕ). ReducesTask done t l signer b r now) e k

-- a level of marking is another than that of turns
pub once_other : (l : Level) → eqb (level_number l) 5 ≡ false
once_other One = refl
once_other Two = refl
once_other Three = refl
once_other Four = refl

-- reduction called alone: the file, the level and the signer, then the stages
module _ (file : List ℕ) (level signer : ℕ) where
  -- a refusal of what is given leaves every buffer untouched
  pub input_refused : (b : Buffers) (o : Outcome) → o ≡ reduce_input file level signer → (o.number ≡ 0 → ⊥) → (r : Reduced) → r ≡ no_files o → Reduces file level signer b r b
  unfolding reduce_stages
  input_refused b o is d r q =
      let whole = stops (reduce_input file level signer) (marks_fit (task_of file) (length b.actions) (length b.facts)) o is d in
      by_stop (ap is_done (sym whole) ∙ is_refused o d) (q ∙ ap no_files whole) refl

  module _ (read : Outcome) (e : read ≡ check_task file) where
    pub refused_file : (read.number ≡ 0 → ⊥) → read ≡ reduce_input file level signer
    unfolding reduce_input
    refused_file d = stops (check_task file) _ read e d

    module _ (z : read.number ≡ 0) where
      pub refused_level : (o : Outcome) → o ≡ guard (valid_reduction level) 8 0 done → (o.number ≡ 0 → ⊥) → o ≡ reduce_input file level signer
      unfolding reduce_input
      refused_level o is d =
          split (valid_reduction level)
          (λ y. absurd (d (ap (λ (x : Outcome). x.number) (is ∙ sym (guard_passes (valid_reduction level) 8 0 done done y refl)))))
          (λ n. goes_on_lem (check_task file) _ o read e z (guard_refuses (valid_reduction level) 8 0 _ o n (is ∙ sym (guard_refuses (valid_reduction level) 8 0 done (refusal 8 0) n refl))))

      pub refused_signer : (o : Outcome) → valid_reduction level ≡ true → signer < 1 → o ≡ refusal 7 0 → o ≡ reduce_input file level signer
      unfolding reduce_input
      refused_signer o v h q = goes_on_lem (check_task file) _ o read e z (guard_passes (valid_reduction level) 8 0 _ o v (guard_refuses (leb 1 signer) 7 0 _ o (lt-leb 1 signer h) q))

      input_done : valid_reduction level ≡ true → 1 ≤ signer → done ≡ reduce_input file level signer
      unfolding reduce_input
      input_done v h = goes_on_lem (check_task file) _ done read e z (guard_passes (valid_reduction level) 8 0 _ done v (guard_passes (leb 1 signer) 7 0 _ done (le-leb 1 signer h) refl))

      -- else they are those of the task that the arrays hold
      pub of_task : valid_reduction level ≡ true → 1 ≤ signer → (b : Buffers) (t : Task) → t ≡ task_of file → (r : Reduced) (now : Buffers) → ReducesTask done t level signer b r now → Reduces file level signer b r now
      of_task v h b t is r now k =
          subst (λ (o : Outcome). ReducesTask o (task_of file) level signer b r now) (input_done v h)
          (subst (λ (x : Task). ReducesTask done x level signer b r now) is k)
