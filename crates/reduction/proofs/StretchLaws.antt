-- Conditions of an accepted file: the pairs of each action lie within it; and what a stretch that is not refused has passed.
use Prim.Native.Nat.{ℕ, zero, suc, ◌+◌, ◌-◌, ◌*◌, ◌≤◌, ◌<◌}
use mathlib.Core.Path.{◌≡◌, refl, sym, ap, ◌∙◌}
use mathlib.Core.List.{List, []}
use native.Mathlib.Omega.{arith}
use lib.ListN.{length, take, drop}
use lib.Dec.{eqb}
use borrow.Author.Tests.{eq-eqb, ne_eqb}
use Rattle.files.specs.Outcome.{Outcome, in_second}
use Rattle.files.specs.Records.{record_end, records_end, body_rule, body_fits, head_at, size_fits}
use Rattle.files.specs.Task.{action_count}
use Rattle.files.specs.TaskFile.{header_at, actions_in, conditions_in, action_length, action_form_at, action_at, actions_at, actions_place, action_place, check_task, task_of}
use Rattle.files.proofs.Done.{facts}
use Rattle.files.proofs.Guards.{is_done_lem, is_refused}
use Rattle.files.proofs.Logic.{cond_case}
use Rattle.files.proofs.TaskChecked.{action_count_lem}
use Rattle.reduction.specs.Clauses.{HasAction}
use Rattle.reduction.specs.Stretch.{side_of, stretch_outcome, condition_bytes, stretch}

-- the actions in a row from `at` on
rows_within : (f : List ℕ) (at count a : ℕ) → (actions_at f at count).number ≡ 0 → a < count
    → records_end f at a + 12 + 4 * conditions_in f (records_end f at a) ≤ length f
unfolding actions_at action_at head_at body_fits body_rule record_end records_end action_form_at action_length
rows_within f at zero a e h = absurd (omega arith)
rows_within f at (suc count) zero e h = let found = simp facts at e in omega arith
rows_within f at (suc count) (suc a) e h = let found = simp facts at e in rows_within f (record_end f at) count a found.1 (omega arith)

module _ (f : List ℕ) (e : (check_task f).number ≡ 0) where
  pub actions_few : actions_in f ≤ 512
  unfolding check_task size_fits header_at actions_in
  actions_few = let found = simp facts at e in omega arith

  pub pairs_within : (a : ℕ) → a < actions_in f → action_place f a + 12 + 4 * conditions_in f (action_place f a) ≤ length f
  unfolding check_task size_fits action_place
  pairs_within a h = let found = simp facts at e in rows_within f (actions_place f) (actions_in f) a found.1.1.1.1 h

-- the code reads where the record stands, then how many conditions it has
module _ (s : List ℕ) (a at n : ℕ) (place : at ≡ action_place s a) (count : n ≡ conditions_in s at) where
  same_count : n ≡ conditions_in s (action_place s a)
  same_count = count ∙ ap (conditions_in s) place

  pub part_within : (check_task s).number ≡ 0 → a < actions_in s → at + 12 + 4 * n ≤ length s
  part_within e h = omega (arith, pairs_within s e a h, same_count, place)

  pub part_is : take (at + 12 + 4 * n - (at + 12)) (drop (at + 12) s) ≡ condition_bytes s a
  unfolding condition_bytes
  part_is =
      let long : at + 12 + 4 * n - (at + 12) ≡ 4 * conditions_in s (action_place s a) = omega (arith, same_count) in
      rw (long, place) refl

-- the file of a side
pub side_first : (side : ℕ) (full reduced : List ℕ) → side ≡ 0 → full ≡ side_of side full reduced
unfolding side_of
side_first side full reduced e = rw (eq-eqb side 0 e) refl

pub side_second : (side : ℕ) (full reduced : List ℕ) → (side ≡ 0 → ⊥) → reduced ≡ side_of side full reduced
unfolding side_of
side_second side full reduced d = rw (ne_eqb side 0 d) refl

-- where a stretch is done, the side's file is accepted and has the action
pub stretch_passed : (full reduced : List ℕ) (side a : ℕ) → (stretch_outcome full reduced side a).number ≡ 0 → HasAction (side_of side full reduced) a
unfolding stretch_outcome in_second side_of
stretch_passed full reduced side a e =
    let found = simp facts at e in
    record {
      accepted = cond_case (λ (f : List ℕ). (check_task f).number ≡ 0) (eqb side 0) full reduced (λ z. found.0) (λ z. found.1.0);
      below = rw (← action_count_lem (side_of side full reduced)) found.1.1.0;
    }

-- the count that the code reads is the task's
pub counted : (n : ℕ) (f g : List ℕ) → n ≡ actions_in f → f ≡ g → n ≡ action_count (task_of g)
counted n f g e same = e ∙ ap actions_in same ∙ sym (action_count_lem g)

-- the code cuts the pairs out of the side's file
pub stretch_done : (full reduced : List ℕ) (side a : ℕ) (cut f : List ℕ) → (stretch_outcome full reduced side a).number ≡ 0 → cut ≡ condition_bytes f a
    → f ≡ side_of side full reduced → cut ≡ stretch full reduced side a
unfolding stretch
stretch_done full reduced side a cut f e is same =
    rw (is_done_lem (stretch_outcome full reduced side a) e) (is ∙ ap (λ (g : List ℕ). condition_bytes g a) same)

pub stretch_refused : (full reduced : List ℕ) (side a : ℕ) → ((stretch_outcome full reduced side a).number ≡ 0 → ⊥) → stretch full reduced side a ≡ []
unfolding stretch
stretch_refused full reduced side a d = rw (is_refused (stretch_outcome full reduced side a) d) refl

-- equal outcomes have the same number
pub number : {o r : Outcome} → o ≡ r → o.number ≡ r.number
number e = ap (λ (x : Outcome). x.number) e
