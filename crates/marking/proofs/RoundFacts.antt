-- The facts that a round gains from the actions that came to count are those that it gains from all that count.
use Prim.Native.Nat.{ℕ, ◌+◌, ◌*◌, ◌/◌, ◌%◌, ◌≤◌, ◌<◌}
use mathlib.Core.Path.{◌≡◌, refl, sym, ap, ap₂, ◌∙◌}
use mathlib.Core.Bool.{Bool, true, false, not, cond, ◌&&◌, ◌||◌}
use mathlib.Core.List.{List}
use mathlib.Core.Logic.{⊎_elim}
use native.Mathlib.Omega.{arith}
use lib.Dec.{eqb, ltb}
use lib.ListN.{get_or}
use borrow.Author.Tests.{eqb-true, eq-eqb, lt-ltb, ltb-true}
use Rattle.files.specs.Below.{any_below, bit}
use Rattle.files.specs.Dense.{row_pairs, held}
use Rattle.files.specs.declared.arrays.Arrays.{Arrays}
use Rattle.files.specs.Task.{Pair, action_of, size_of, mentions}
use Rattle.files.proofs.BelowLaws.{any_below_intro, any_below_elim, bit_most}
use Rattle.files.proofs.Logic.{clash, split, and_split, and_join, or_split, or_left, or_right}
use Rattle.files.proofs.Valid.{Valid}
use Rattle.plans.specs.State.{has_fact}
use Rattle.marking.specs.Marks.{Marks, relevant, names}
use Rattle.marking.specs.Rounds.{marked, gains_fact}
use Rattle.marking.specs.Dense.{SetWhere, is_marked, differ, names_at, row_names, names_anew}
use Rattle.marking.proofs.HeldMarks.{held_marks, relevant_held}
use Rattle.files.proofs.HeldTask.{variables_held, actions_held, size_held, conditions_held, condition_valid}
use Rattle.marking.proofs.Progress.{Progress}
use Rattle.marking.proofs.RoundLinks.{differ_new, new_differs}
use Rattle.marking.proofs.RowTests.{row_fact, row_mentions}
use Rattle.files.proofs.Truth.{same_truth, bit_marked, marked_bit, cond_bit}

-- the facts that a row of an accepted task names, by their places
module _ (d : Arrays) (ok : Valid (held d)) (whole : Bool) (row : List ℕ) (base : ℕ) (valid : (v : ℕ) → v < d.variables → eqb (get_or row (base + v) 0) 255 ≡ false → get_or row (base + v) 0 < size_of (held d) v) where
  abbrev entry : ℕ → ℕ
  entry v = get_or row (base + v) 0

  abbrev places : ℕ → Bool
  places i = row_names whole row base d.sizes d.variables i

  -- what a place that is named says
  record Named (v e : ℕ) : Type 0 where
    known : v < d.variables
    there : eqb (entry v) 255 ≡ false
    value : cond whole (ltb e (get_or d.sizes v 0)) (eqb e (entry v % 32)) ≡ true

  named_says : (v e : ℕ) → e < 32 → places (32 * v + e) ≡ true → Named v e
  unfolding row_names names_at
  named_says v e k q =
      let i : ℕ = 32 * v + e in
      let found = any_below_elim d.variables (λ w. not (eqb (entry w) 255) && (eqb (i / 32) w && cond whole (ltb (i % 32) (get_or d.sizes w 0)) (eqb (i % 32) (entry w % 32)))) q in
      let w : ℕ = found.0 in
      let both = and_split (not (eqb (entry w) 255)) (eqb (i / 32) w && cond whole (ltb (i % 32) (get_or d.sizes w 0)) (eqb (i % 32) (entry w % 32))) found.2 in
      let here = and_split (eqb (i / 32) w) (cond whole (ltb (i % 32) (get_or d.sizes w 0)) (eqb (i % 32) (entry w % 32))) both.1 in
      let quotient : i / 32 ≡ w = eqb-true (i / 32) w here.0 in
      let is : w ≡ v = omega arith in
      let rest : i % 32 ≡ e = omega arith in
      record {
        known = omega (arith, found.1);
        there = split (eqb (entry v) 255) (λ r. clash both.0 (ap (λ (n : ℕ). not (eqb (entry n) 255)) is ∙ ap not r)) (λ r. r);
        value = ap₂ (λ (n x : ℕ). cond whole (ltb x (get_or d.sizes n 0)) (eqb x (entry n % 32))) (sym is) (sym rest) ∙ here.1;
      }

  named_place : (v e : ℕ) → e < 32 → Named v e → places (32 * v + e) ≡ true
  unfolding row_names names_at
  named_place v e k n =
      let i : ℕ = 32 * v + e in
      let quotient : i / 32 ≡ v = omega arith in
      let rest : i % 32 ≡ e = omega arith in
      any_below_intro d.variables (λ w. not (eqb (entry w) 255) && (eqb (i / 32) w && cond whole (ltb (i % 32) (get_or d.sizes w 0)) (eqb (i % 32) (entry w % 32)))) v n.known
      (and_join (ap not n.there)
      (and_join (eq-eqb (i / 32) v quotient)
      (ap (λ (x : ℕ). cond whole (ltb x (get_or d.sizes v 0)) (eqb x (entry v % 32))) rest ∙ n.value)))

  -- only facts of the task are named
  pub named_inside : (v e : ℕ) → e < 32 → places (32 * v + e) ≡ true → (v < d.variables) × (e < size_of (held d) v)
  named_inside v e k q =
      let n = named_says v e k q in
      let small = valid v n.known n.there in (
        n.known,
        split whole
            (λ r.
            omega (
              arith,
              ltb-true e (get_or d.sizes v 0) (sym (ap (λ (b : Bool). cond b (ltb e (get_or d.sizes v 0)) (eqb e (entry v % 32))) r) ∙ n.value),
              size_held d v n.known,
            ))
            (λ r.
            let is : e ≡ entry v % 32 = eqb-true e (entry v % 32) (sym (ap (λ (b : Bool). cond b (ltb e (get_or d.sizes v 0)) (eqb e (entry v % 32))) r) ∙ n.value) in
            omega (arith, small, ok.size_most v)),
      )

  pub names_held : (v e : ℕ) → v < d.variables → e < size_of (held d) v → places (32 * v + e) ≡ cond whole (mentions (row_pairs row base 0 d.variables) v) (has_fact (row_pairs row base 0 d.variables) v e)
  names_held v e h k =
      let small : e < 32 = omega (arith, ok.size_most v) in
      let pairs : List Pair = row_pairs row base 0 d.variables in
      split whole
      (λ r.
      same_truth (places (32 * v + e)) (cond whole (mentions pairs v) (has_fact pairs v e))
      (λ q. ap (λ (b : Bool). cond b (mentions pairs v) (has_fact pairs v e)) r ∙ row_mentions row base d.variables v h ∙ ap not (named_says v e small q).there)
      (λ q.
      let seen : not (eqb (entry v) 255) ≡ true = sym (row_mentions row base d.variables v h) ∙ sym (ap (λ (b : Bool). cond b (mentions pairs v) (has_fact pairs v e)) r) ∙ q in
      named_place v e small
      (record {
        known = h;
        there = split (eqb (entry v) 255) (λ z. clash seen (ap not z)) (λ z. z);
        value = ap (λ (b : Bool). cond b (ltb e (get_or d.sizes v 0)) (eqb e (entry v % 32))) r ∙ lt-ltb e (get_or d.sizes v 0) (omega (arith, size_held d v h));
      })))
      (λ r.
      same_truth (places (32 * v + e)) (cond whole (mentions pairs v) (has_fact pairs v e))
      (λ q.
      let n = named_says v e small q in
      let is : e ≡ entry v % 32 = eqb-true e (entry v % 32) (sym (ap (λ (b : Bool). cond b (ltb e (get_or d.sizes v 0)) (eqb e (entry v % 32))) r) ∙ n.value) in
      let same : entry v ≡ e = omega (arith, valid v h n.there, ok.size_most v) in
      ap (λ (b : Bool). cond b (mentions pairs v) (has_fact pairs v e)) r ∙ row_fact row base d.variables v h e ∙ and_join (ap not n.there) (eq-eqb (entry v) e same))
      (λ q.
      let seen = and_split (not (eqb (entry v) 255)) (eqb (entry v) e) (sym (row_fact row base d.variables v h e) ∙ sym (ap (λ (b : Bool). cond b (mentions pairs v) (has_fact pairs v e)) r) ∙ q) in
      let same : entry v ≡ e = eqb-true (entry v) e seen.1 in
      let rest : e ≡ entry v % 32 = omega arith in
      named_place v e small
      (record {
        known = h;
        there = split (eqb (entry v) 255) (λ z. clash seen.0 (ap not z)) (λ z. z);
        value = ap (λ (b : Bool). cond b (ltb e (get_or d.sizes v 0)) (eqb e (entry v % 32))) r ∙ eq-eqb e (entry v % 32) rest;
      })))

module _ (d : Arrays) (ok : Valid (held d)) (level : ℕ) (actions facts unlinked_before threats kept_before counted_before : List ℕ) (p : Progress d level actions facts unlinked_before threats kept_before counted_before)
    (counted : List Bool) (counts : List ℕ) (count : (a : ℕ) → a < d.actions → get_or counts a 0 ≡ bit (is_marked counted_before a || marked counted a))
    (facts' : List ℕ) (s : SetWhere (names_anew (eqb level 1) d.conditions d.sizes d.variables counts counted_before d.actions) facts facts') where
  abbrev marks : Marks
  marks = held_marks (held d) actions facts

  pub count_marked : (a : ℕ) → a < d.actions → is_marked counts a ≡ is_marked counted_before a || marked counted a
  count_marked a l = ap (λ (n : ℕ). eqb n 1) (count a l) ∙ bit_marked (is_marked counted_before a || marked counted a)

  pub count_bit : (a : ℕ) → a < d.actions → get_or counts a 0 ≤ 1
  count_bit a l = omega (arith, count a l, bit_most (is_marked counted_before a || marked counted a))

  row_names_lem : (a v e : ℕ) → a < d.actions → v < d.variables → e < size_of (held d) v → row_names (eqb level 1) d.conditions (64 * a) d.sizes d.variables (32 * v + e) ≡ names level (action_of (held d) a).conditions v e
  unfolding names
  row_names_lem a v e l h k =
      names_held d ok (eqb level 1) d.conditions (64 * a) (λ w i. condition_valid d ok a w l i) v e h k
      ∙ ap (λ (ps : List Pair). names level ps v e) (sym (conditions_held d a l))

  anew : ℕ → ℕ → Bool
  anew i a = differ counts counted_before a && row_names (eqb level 1) d.conditions (64 * a) d.sizes d.variables i

  anew_says : (i : ℕ) → names_anew (eqb level 1) d.conditions d.sizes d.variables counts counted_before d.actions i ≡ any_below d.actions (anew i)
  unfolding names_anew anew
  anew_says i = refl

  gains : ℕ → ℕ → ℕ → Bool
  gains v e a = marked counted a && names level (action_of (held d) a).conditions v e

  gains_says : (v e : ℕ) → gains_fact (held d) level counted v e ≡ any_below d.actions (gains v e)
  unfolding gains_fact gains
  gains_says v e = ap (λ (n : ℕ). any_below n (λ a. marked counted a && names level (action_of (held d) a).conditions v e)) (actions_held d)

  joined : (v e : ℕ) → v < d.variables → e < size_of (held d) v → any_below d.actions (anew (32 * v + e)) || is_marked facts (32 * v + e) ≡ relevant marks v e || any_below d.actions (gains v e)
  unfolding anew gains
  joined v e h k =
      same_truth (any_below d.actions (anew (32 * v + e)) || is_marked facts (32 * v + e)) (relevant marks v e || any_below d.actions (gains v e))
      (λ q.
      ⊎_elim
      (λ new.
      let found = any_below_elim d.actions (anew (32 * v + e)) new in
      let a : ℕ = found.0 in
      let both = and_split (differ counts counted_before a) (row_names (eqb level 1) d.conditions (64 * a) d.sizes d.variables (32 * v + e)) found.2 in
      let is_new : is_marked counts a ≡ true =
      differ_new (get_or counts a 0) (get_or counted_before a 0) (count_bit a found.1) (p.counted_before_bit a found.1) (λ r. count_marked a found.1 ∙ or_left (marked counted a) r) both.0 in
      let named_it : names level (action_of (held d) a).conditions v e ≡ true = sym (row_names_lem a v e found.1 h k) ∙ both.1 in
      ⊎_elim
      (λ old. or_left (any_below d.actions (gains v e)) (relevant_held d actions facts v e h k ∙ p.counted_before_facts a found.1 old v e h k named_it))
      (λ fresh. or_right (relevant marks v e) (any_below_intro d.actions (gains v e) a found.1 (and_join fresh named_it)))
      (or_split (is_marked counted_before a) (marked counted a) (sym (count_marked a found.1) ∙ is_new)))
      (λ old. or_left (any_below d.actions (gains v e)) (relevant_held d actions facts v e h k ∙ old))
      (or_split (any_below d.actions (anew (32 * v + e))) (is_marked facts (32 * v + e)) q))
      (λ q.
      ⊎_elim
      (λ old. or_right (any_below d.actions (anew (32 * v + e))) (sym (relevant_held d actions facts v e h k) ∙ old))
      (λ new.
      let found = any_below_elim d.actions (gains v e) new in
      let a : ℕ = found.0 in
      let both = and_split (marked counted a) (names level (action_of (held d) a).conditions v e) found.2 in
      split (is_marked counted_before a)
      (λ r. or_right (any_below d.actions (anew (32 * v + e))) (p.counted_before_facts a found.1 r v e h k both.1))
      (λ r.
      or_left (is_marked facts (32 * v + e))
      (any_below_intro d.actions (anew (32 * v + e)) a found.1
      (and_join
      (new_differs (get_or counts a 0) (get_or counted_before a 0) (count_marked a found.1 ∙ or_right (is_marked counted_before a) both.0) r)
      (row_names_lem a v e found.1 h k ∙ both.1)))))
      (or_split (relevant marks v e) (any_below d.actions (gains v e)) q))

  entry_now : (i : ℕ) → i < 2048 → get_or facts' i 0 ≡ bit (any_below d.actions (anew i) || is_marked facts i)
  entry_now i k =
      s.entry i (omega (arith, p.facts_long))
      ∙ ap (λ (n : ℕ). cond (names_anew (eqb level 1) d.conditions d.sizes d.variables counts counted_before d.actions i) 1 n) (marked_bit (get_or facts i 0) (p.fact_bit i k))
      ∙ cond_bit (names_anew (eqb level 1) d.conditions d.sizes d.variables counts counted_before d.actions i) (is_marked facts i)
      ∙ ap (λ (b : Bool). bit (b || is_marked facts i)) (anew_says i)

  pub facts_bit : (i : ℕ) → i < 2048 → get_or facts' i 0 ≤ 1
  facts_bit i k = omega (arith, entry_now i k, bit_most (any_below d.actions (anew i) || is_marked facts i))

  pub facts_now : (v e : ℕ) → v < d.variables → e < size_of (held d) v → get_or facts' (32 * v + e) 0 ≡ bit (relevant marks v e || gains_fact (held d) level counted v e)
  facts_now v e h k =
      entry_now (32 * v + e) (omega (arith, ok.variables_few, variables_held d, ok.size_most v))
      ∙ ap bit (joined v e h k ∙ ap (λ (b : Bool). relevant marks v e || b) (sym (gains_says v e)))

  -- no fact is marked that the task does not have
  pub facts_known : (v e : ℕ) → v < 64 → e < 32 → is_marked facts' (32 * v + e) ≡ true → (v < d.variables) × (e < size_of (held d) v)
  unfolding anew
  facts_known v e h k q =
      let some_way : any_below d.actions (anew (32 * v + e)) || is_marked facts (32 * v + e) ≡ true =
      sym (ap (λ (n : ℕ). eqb n 1) (entry_now (32 * v + e) (omega arith)) ∙ bit_marked (any_below d.actions (anew (32 * v + e)) || is_marked facts (32 * v + e))) ∙ q in
      ⊎_elim
      (λ new.
      let found = any_below_elim d.actions (anew (32 * v + e)) new in
      let both = and_split (differ counts counted_before found.0) (row_names (eqb level 1) d.conditions (64 * found.0) d.sizes d.variables (32 * v + e)) found.2 in
      named_inside d ok (eqb level 1) d.conditions (64 * found.0) (λ w i. condition_valid d ok found.0 w found.1 i) v e k both.1)
      (λ old. p.fact_known v e h k old)
      (or_split (any_below d.actions (anew (32 * v + e))) (is_marked facts (32 * v + e)) some_way)
