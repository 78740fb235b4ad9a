-- The number of marks: it stays the same exactly where a round changes nothing.
use Prim.Native.Nat.{ℕ, zero, suc, ◌+◌, ◌*◌, ◌/◌, ◌%◌, ◌≤◌, ◌<◌}
use mathlib.Core.Path.{◌≡◌, refl, sym, ap, ap₂, subst, ◌∙◌}
use mathlib.Core.Bool.{Bool, true, false, cond}
use mathlib.Core.List.{List}
use native.Mathlib.Omega.{arith}
use lib.Dec.{eqb}
use lib.ListN.{length, get_or}
use Rattle.files.specs.Below.{bit, sum_below, sum_of}
use Rattle.files.specs.Dense.{held}
use Rattle.files.specs.declared.arrays.Arrays.{Arrays}
use Rattle.files.specs.Task.{size_of}
use Rattle.files.proofs.Valid.{Valid}
use Rattle.marking.specs.Marks.{Marks, kept, relevant}
use Rattle.marking.specs.Dense.{SetWhere, is_marked}
use Rattle.files.proofs.CountOrder.{sum_order, sum_same}
use Rattle.marking.proofs.HeldMarks.{held_marks, fact_at, marks_held, kept_held, relevant_held}
use Rattle.files.proofs.HeldTask.{actions_held}
use Rattle.marking.proofs.MarkTables.{marks_of_same}
use Rattle.marking.proofs.Progress.{Progress}
use Rattle.files.proofs.Truth.{same_truth, marked_bit}

-- setting marks makes no entry smaller
set_more : (test : ℕ → Bool) (old new : List ℕ) (i : ℕ) → SetWhere test old new → i < length old → get_or old i 0 ≤ 1 → get_or old i 0 ≤ get_or new i 0
set_more test old new i s h small = omega (arith, s.entry i h, larger (test i) (get_or old i 0) small)
  where
    larger : (b : Bool) (n : ℕ) → n ≤ 1 → n ≤ cond b 1 n
    larger true n k = k
    larger false n k = omega arith

-- the same entries have the same sum
pub sum_alike : (n : ℕ) (f g : ℕ → ℕ) → ((i : ℕ) → i < n → f i ≡ g i) → sum_below n f ≡ sum_below n g
sum_alike zero f g h = refl
sum_alike (suc n) f g h = ap₂ ◌+◌ (h n (omega arith)) (sum_alike n f g (λ i l. h i (omega arith)))

pub sum_zero : (n : ℕ) (f : ℕ → ℕ) → ((i : ℕ) → i < n → f i ≡ 0) → sum_below n f ≡ 0
sum_zero zero f h = refl
sum_zero (suc n) f h = omega (arith, h n (omega arith), sum_zero n f (λ i l. h i (omega arith)))

no_more : (a b x y : ℕ) → a + b ≡ x + y → a ≤ x → b ≤ y → (x ≤ a) × (y ≤ b)
no_more a b x y e h k = (omega arith, omega arith)

same : (a b : ℕ) → a ≤ b → b ≤ a → a ≡ b
same a b h k = omega arith

module _ (d : Arrays) where
  -- how many marks arrays hold
  abbrev pub mark_sum : List ℕ → List ℕ → ℕ
  mark_sum actions facts = sum_of actions d.actions + sum_of facts 2048

module _ (d : Arrays) (ok : Valid (held d)) (level : ℕ) (actions facts unlinked_before threats kept_before counted_before : List ℕ) (p : Progress d level actions facts unlinked_before threats kept_before counted_before)
    (actions' facts' unlinked_before' threats' kept_before' counted_before' : List ℕ) (q : Progress d level actions' facts' unlinked_before' threats' kept_before' counted_before')
    (gains names : ℕ → Bool) (s : SetWhere gains actions actions') (r : SetWhere names facts facts') where
  action_more : (a : ℕ) → a < d.actions → get_or actions a 0 ≤ get_or actions' a 0
  action_more a l = set_more gains actions actions' a s (omega (arith, p.actions_long, ok.actions_few, actions_held d)) (p.action_bit a l)

  fact_more : (i : ℕ) → i < 2048 → get_or facts i 0 ≤ get_or facts' i 0
  fact_more i l = set_more names facts facts' i r (omega (arith, p.facts_long)) (p.fact_bit i l)

  pub sum_same_marks : mark_sum d actions facts ≡ mark_sum d actions' facts' → held_marks (held d) actions facts ≡ held_marks (held d) actions' facts'
  unfolding sum_of
  sum_same_marks e =
      let both =
      no_more (sum_below d.actions (λ i. get_or actions i 0)) (sum_below 2048 (λ i. get_or facts i 0)) (sum_below d.actions (λ i. get_or actions' i 0)) (sum_below 2048 (λ i. get_or facts' i 0)) e
      (sum_order d.actions (λ i. get_or actions i 0) (λ i. get_or actions' i 0) action_more)
      (sum_order 2048 (λ i. get_or facts i 0) (λ i. get_or facts' i 0) fact_more)
      in
      let action_same : (a : ℕ) → a < d.actions → get_or actions a 0 ≡ get_or actions' a 0 = λ a l. same (get_or actions a 0) (get_or actions' a 0) (action_more a l) (sum_same d.actions (λ i. get_or actions i 0) (λ i. get_or actions' i 0) action_more both.0 a l) in
      let fact_same : (i : ℕ) → i < 2048 → get_or facts i 0 ≡ get_or facts' i 0 = λ i l. same (get_or facts i 0) (get_or facts' i 0) (fact_more i l) (sum_same 2048 (λ i. get_or facts i 0) (λ i. get_or facts' i 0) fact_more both.1 i l) in
      marks_held d actions facts
      ∙ marks_of_same (held d) (is_marked actions) (is_marked actions') (fact_at d actions facts) (fact_at d actions' facts')
      (λ a l. ap (λ (n : ℕ). eqb n 1) (action_same a (omega (arith, actions_held d))))
      (λ v e h k. ap (λ (n : ℕ). eqb n 1) (fact_same (32 * v + e) (omega (arith, ok.variables_few, ok.size_most v))))
      ∙ sym (marks_held d actions' facts')

  pub marks_same_sum : held_marks (held d) actions facts ≡ held_marks (held d) actions' facts' → mark_sum d actions facts ≡ mark_sum d actions' facts'
  unfolding sum_of
  marks_same_sum e =
      ap₂ ◌+◌
      (sum_alike d.actions (λ i. get_or actions i 0) (λ i. get_or actions' i 0)
      (λ a l.
      marked_bit (get_or actions a 0) (p.action_bit a l)
      ∙ ap bit (sym (kept_held d actions facts a l) ∙ ap (λ (m : Marks). kept m a) e ∙ kept_held d actions' facts' a l)
      ∙ sym (marked_bit (get_or actions' a 0) (q.action_bit a l))))
      (sum_alike 2048 (λ i. get_or facts i 0) (λ i. get_or facts' i 0)
      (λ i l. marked_bit (get_or facts i 0) (p.fact_bit i l) ∙ ap bit (fact_same i l) ∙ sym (marked_bit (get_or facts' i 0) (q.fact_bit i l))))
    where
      relevant_same : (v x : ℕ) → v < d.variables → x < size_of (held d) v → is_marked facts (32 * v + x) ≡ is_marked facts' (32 * v + x)
      relevant_same v x h k = sym (relevant_held d actions facts v x h k) ∙ ap (λ (m : Marks). relevant m v x) e ∙ relevant_held d actions' facts' v x h k

      place_same : (v x : ℕ) → v < 64 → x < 32 → is_marked facts (32 * v + x) ≡ is_marked facts' (32 * v + x)
      place_same v x h k =
          same_truth (is_marked facts (32 * v + x)) (is_marked facts' (32 * v + x))
          (λ m. let inside = p.fact_known v x h k m in sym (relevant_same v x inside.0 inside.1) ∙ m)
          (λ m. let inside = q.fact_known v x h k m in relevant_same v x inside.0 inside.1 ∙ m)

      fact_same : (i : ℕ) → i < 2048 → is_marked facts i ≡ is_marked facts' i
      fact_same i l =
          let is : 32 * (i / 32) + i % 32 ≡ i = omega arith in
          subst (λ (n : ℕ). is_marked facts n ≡ is_marked facts' n) is (place_same (i / 32) (i % 32) (omega arith) (omega arith))
