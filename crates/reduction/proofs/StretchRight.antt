-- The condition stretch is the action's condition pairs, as the task of its side's file has them.
use Prim.Native.Nat.{ℕ, zero, suc, ◌+◌, ◌*◌, ◌<◌}
use mathlib.Core.Path.{◌≡◌, refl, sym, ap, ◌∙◌}
use mathlib.Core.Bool.{true, cond}
use mathlib.Core.List.{List, [], ◌∷◌, ◌++◌}
use native.Mathlib.Omega.{arith}
use lib.Dec.{eqb, ltb}
use lib.ListN.{length, take, drop, get_or, length-take, length-drop}
use lib.Seq.{ext_get_or, get_or-take, get_or-drop}
use Rattle.files.specs.Outcome.{Outcome, done, is_done, guard, and_then, in_second}
use Rattle.files.specs.Bytes.{Octets}
use Rattle.files.specs.Listed.{listed, refused_at, file_refusals}
use Rattle.files.specs.Records.{record_end, records_end}
use Rattle.files.specs.Task.{Action, action, action_count, action_of}
use Rattle.files.specs.TaskFile.{check_task, task_of, conditions_in, pairs_from, action_from, actions_from, actions_in, actions_place, action_place, pair_bytes}
use Rattle.files.proofs.Lengths.{pair_bytes_length}
use Rattle.files.proofs.Listed.{listed_done, listed_front, listed_behind, listed_guard, listed_both, listed_itself, listed_at, listed_second, task_listed}
use Rattle.files.proofs.Logic.{cond_case, split}
use Rattle.files.proofs.Pairs.{pairs_length, pairs_stand}
use Rattle.files.proofs.Stages.{both_last, answer_by_lem}
use Rattle.files.proofs.Stands.{Stands}
use Rattle.reduction.specs.Answers.{stretched, stretch_refusals, conditions_of, StretchAnswers, StretchLength}
use Rattle.reduction.specs.Clauses.{HasAction}
use Rattle.reduction.specs.Stretch.{side_of, stretch_outcome, condition_bytes, stretch}
use Rattle.reduction.proofs.StretchLaws.{stretch_passed, pairs_within}

-- what stands at a place is what is cut out there
stands_cut : (f xs : List ℕ) (at : ℕ) → Stands f at xs → take (length xs) (drop at f) ≡ xs
stands_cut f xs at s =
    let long : length (take (length xs) (drop at f)) ≡ length xs = simp (length-take, length-drop) (omega (arith, s.room)) in
    ext_get_or 0 _ xs long (λ i l. let h : i < length xs = omega arith in rw (get_or-take, get_or-drop) (s.same i h))

-- the action of a number is read at its record
action_at_lem : (f : List ℕ) (at count a : ℕ) → a < count → get_or (actions_from f at count) a (action 0 [] []) ≡ action_from f (records_end f at a)
unfolding actions_from records_end
action_at_lem f at zero a h = absurd (omega arith)
action_at_lem f at (suc count) zero h = refl
action_at_lem f at (suc count) (suc a) h = action_at_lem f (record_end f at) count a (omega arith)

module _ (f : List ℕ) (a : ℕ) (e : (check_task f).number ≡ 0) (h : a < actions_in f) where
  conditions_read_lem : (action_of (task_of f) a).conditions ≡ pairs_from f (action_place f a + 12) (conditions_in f (action_place f a))
  unfolding task_of action_place action_from
  conditions_read_lem = ap (λ (x : Action). x.conditions) (action_at_lem f (actions_place f) (actions_in f) a h)

  pub conditions_cut : Octets f → condition_bytes f a ≡ pair_bytes (action_of (task_of f) a).conditions
  unfolding condition_bytes
  conditions_cut o =
      let pairs = pairs_from f (action_place f a + 12) (conditions_in f (action_place f a)) in
      let long : length (pair_bytes pairs) ≡ 4 * conditions_in f (action_place f a) =
      pair_bytes_length pairs ∙ ap (λ (n : ℕ). 4 * n) (pairs_length f (action_place f a + 12) (conditions_in f (action_place f a))) in
      ap (λ (n : ℕ). take n (drop (action_place f a + 12) f)) (sym long)
      ∙ stands_cut f (pair_bytes pairs) (action_place f a + 12) (pairs_stand f o (action_place f a + 12) (conditions_in f (action_place f a)) (pairs_within f e a h))
      ∙ ap pair_bytes (sym conditions_read_lem)

  pub conditions_long_lem : length (condition_bytes f a) ≡ 4 * length (action_of (task_of f) a).conditions
  unfolding condition_bytes
  conditions_long_lem =
      let count = pairs_length f (action_place f a + 12) (conditions_in f (action_place f a)) in
      let inside = pairs_within f e a h in
      rw conditions_read_lem (simp (length-take, length-drop) (omega arith))

module _ (full reduced : List ℕ) (side a : ℕ) where
  abbrev o : Outcome
  o = stretch_outcome full reduced side a

  abbrev last : Outcome
  last = guard (ltb a (action_count (task_of (side_of side full reduced)))) 5 0 done

  last_listed : listed (stretch_refusals full reduced) last ≡ true
  last_listed =
      listed_behind (file_refusals 0 full ++ file_refusals 1 reduced) (refused_at 5 0 ∷ []) _
      (listed_guard (refused_at 5 0 ∷ []) _ 5 0 done (listed_at 5 0 [] refl) (λ _. listed_done (refused_at 5 0 ∷ [])))

  stretch_listed : listed (stretch_refusals full reduced) o ≡ true
  unfolding stretch_outcome
  stretch_listed =
      let files = file_refusals 0 full ++ file_refusals 1 reduced in
      listed_both (stretch_refusals full reduced) _ _ (listed_front files (refused_at 5 0 ∷ []) _ (listed_front (file_refusals 0 full) (file_refusals 1 reduced) _ (task_listed full)))
      (λ _. listed_both (stretch_refusals full reduced) _ _ (listed_front files (refused_at 5 0 ∷ []) _ (listed_behind (file_refusals 0 full) (file_refusals 1 reduced) _ (listed_second reduced _ (task_listed reduced)))) (λ _. last_listed))

  row_is : o ≡ and_then (check_task full) (and_then (in_second (check_task reduced)) (and_then last done))
  unfolding stretch_outcome
  row_is = ap (λ (x : Outcome). and_then (check_task full) (and_then (in_second (check_task reduced)) x)) (sym (both_last last (listed_itself _ last last_listed)))

  side_octets : Octets full → Octets reduced → Octets (side_of side full reduced)
  unfolding side_of
  side_octets p q = cond_case Octets (eqb side 0) full reduced (λ _. p) (λ _. q)

  done_passed : is_done o ≡ true → HasAction (side_of side full reduced) a
  done_passed e = stretch_passed full reduced side a (ap (λ (x : Outcome). x.number) (listed_itself _ o stretch_listed e))

  numbers_are : stretched o (stretch full reduced side a) ≡ cond (is_done o) (stretched o (condition_bytes (side_of side full reduced) a)) (stretched o [])
  unfolding stretch
  numbers_are = split (is_done o) (λ e. rw e refl) (λ e. rw e refl)

  pub stretch_answers : Octets full → Octets reduced → StretchAnswers full reduced side a
  stretch_answers p q =
      record {
        outcome = ap (listed (stretch_refusals full reduced)) (sym row_is) ∙ stretch_listed;
        numbers =
            numbers_are
            ∙ answer_by_lem o _ _ (stretched done (pair_bytes (conditions_of full reduced side a))) (λ x. stretched x []) row_is
            (λ e.
            let w = done_passed e in
            λ i. stretched (listed_itself _ o stretch_listed e i) (conditions_cut (side_of side full reduced) a w.accepted w.below (side_octets p q) i));
        buffers = refl;
      }

  pub stretch_length : StretchLength full reduced side a
  unfolding stretch is_done
  stretch_length e =
      let w = stretch_passed full reduced side a (ap (λ (x : Outcome). x.number) e) in
      rw e (conditions_long_lem (side_of side full reduced) a w.accepted w.below)
