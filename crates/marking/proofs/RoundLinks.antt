-- The threats, the unlinked facts and the tracked variables that a round works out are those of its marks.
use Prim.Native.Nat.{ℕ, ◌+◌, ◌*◌, ◌/◌, ◌%◌, ◌≤◌, ◌<◌}
use mathlib.Core.Path.{◌≡◌, refl, sym, ap, ap₂, ◌∙◌}
use mathlib.Core.Bool.{Bool, true, false, not, cond, ◌&&◌, ◌||◌}
use mathlib.Core.List.{List}
use mathlib.Core.Logic.{⊎_elim}
use native.Mathlib.Omega.{arith}
use lib.Dec.{eqb, leb, ltb}
use lib.ListN.{get_or}
use borrow.Author.Tests.{eqb-true, eq-eqb, lt-ltb}
use Rattle.files.specs.Below.{any_below, bit}
use Rattle.files.specs.Dense.{held}
use Rattle.files.specs.declared.arrays.Arrays.{Arrays}
use Rattle.files.specs.Task.{size_of}
use Rattle.files.proofs.BelowLaws.{any_below_intro, any_below_elim}
use Rattle.files.proofs.Logic.{clash, split, and_split, and_join, or_split, or_left, or_right}
use Rattle.files.proofs.Valid.{Valid}
use Rattle.marking.specs.Marks.{Marks, kept, relevant}
use Rattle.marking.specs.Links.{threatened, linked, unlinked, tracked}
use Rattle.marking.specs.Dense.{SetWhere, is_marked, differ, other_than, threatens, threatens_anew, linked_cell, unlinked_at, tracked_at}
use Rattle.marking.proofs.HeldMarks.{held_marks, threatened_held, kept_held, relevant_held, relevant_inside}
use Rattle.files.proofs.HeldTask.{variables_held, start_held, effect_at}
use Rattle.marking.proofs.Progress.{Progress}
use Rattle.files.proofs.Truth.{same_truth, any_same, any_bound, bit_marked, bit_empty, marked_bit, cond_bit}

-- a mark that differs from an earlier one is new
pub differ_new : (x y : ℕ) → x ≤ 1 → y ≤ 1 → (eqb y 1 ≡ true → eqb x 1 ≡ true) → not (eqb x y) ≡ true → eqb x 1 ≡ true
differ_new x y hx hy more e =
    split (eqb y 1)
    (λ q. more q)
    (λ q.
    split (eqb x 1)
    (λ p. p)
    (λ p. clash (sym (ap (λ (b : Bool). not b) (eq-eqb x y (marked_bit x hx ∙ ap bit p ∙ sym (ap bit q) ∙ sym (marked_bit y hy)))) ∙ e) refl))

pub new_differs : (x y : ℕ) → eqb x 1 ≡ true → eqb y 1 ≡ false → not (eqb x y) ≡ true
new_differs x y p q = split (eqb x y) (λ e. clash (sym (ap (λ (n : ℕ). eqb n 1) (eqb-true x y e)) ∙ p) q) (λ e. ap not e)

module _ (d : Arrays) (ok : Valid (held d)) (level : ℕ) (actions facts unlinked_before threats kept_before counted_before : List ℕ) (p : Progress d level actions facts unlinked_before threats kept_before counted_before) where
  few : d.variables ≤ 64
  few = omega (arith, ok.variables_few, variables_held d)

  -- threats, with those of the actions that were not yet looked at
  module _ (threats' : List ℕ) (s : SetWhere (threatens_anew d.effects d.starts d.variables actions kept_before d.actions) threats threats') where
    new_threat : ℕ → Bool
    new_threat v = threatens_anew d.effects d.starts d.variables actions kept_before d.actions v

    other : ℕ → ℕ → Bool
    other a v = other_than (effect_at d a v) (get_or d.starts v 0)

    new_says : (v : ℕ) → v < d.variables → new_threat v ≡ any_below d.actions (λ a. differ actions kept_before a && other a v)
    unfolding new_threat other threatens_anew threatens
    new_says v h =
        any_same d.actions (λ a. differ actions kept_before a && (ltb v d.variables && other_than (get_or d.effects (64 * a + v) 0) (get_or d.starts v 0))) (λ a. differ actions kept_before a && other_than (get_or d.effects (64 * a + v) 0) (get_or d.starts v 0))
        (λ a l. ap (λ (b : Bool). differ actions kept_before a && (b && other_than (get_or d.effects (64 * a + v) 0) (get_or d.starts v 0))) (lt-ltb v d.variables h))

    pub threats_now : (v : ℕ) → v < d.variables → get_or threats' v 0 ≡ bit (threatened (held d) (is_marked actions) v)
    unfolding new_threat other
    threats_now v h =
        s.entry v (omega (arith, p.threats_long, few))
        ∙ ap (λ (n : ℕ). cond (new_threat v) 1 n) (p.threat v h)
        ∙ cond_bit (new_threat v) (threatened (held d) (is_marked kept_before) v)
        ∙ ap bit (ap₂ (λ (a b : Bool). a || b) (new_says v h) (threatened_held d (is_marked kept_before) v h) ∙ joined ∙ sym (threatened_held d (is_marked actions) v h))
      where
        news : ℕ → Bool
        news a = differ actions kept_before a && other_than (effect_at d a v) (get_or d.starts v 0)

        olds : ℕ → Bool
        olds a = is_marked kept_before a && other_than (effect_at d a v) (get_or d.starts v 0)

        alls : ℕ → Bool
        alls a = is_marked actions a && other_than (effect_at d a v) (get_or d.starts v 0)

        joined : any_below d.actions news || any_below d.actions olds ≡ any_below d.actions alls
        joined =
            same_truth (any_below d.actions news || any_below d.actions olds) (any_below d.actions alls)
            (λ e.
            ⊎_elim
            (λ new.
            let k = any_below_elim d.actions news new in
            let both = and_split (differ actions kept_before k.0) (other_than (effect_at d k.0 v) (get_or d.starts v 0)) k.2 in
            any_below_intro d.actions alls k.0 k.1
            (and_join (differ_new (get_or actions k.0 0) (get_or kept_before k.0 0) (p.action_bit k.0 k.1) (p.kept_before_bit k.0 k.1) (p.kept_before_stays k.0 k.1) both.0) both.1))
            (λ old.
            let k = any_below_elim d.actions olds old in
            let both = and_split (is_marked kept_before k.0) (other_than (effect_at d k.0 v) (get_or d.starts v 0)) k.2 in
            any_below_intro d.actions alls k.0 k.1 (and_join (p.kept_before_stays k.0 k.1 both.0) both.1))
            (or_split (any_below d.actions news) (any_below d.actions olds) e))
            (λ e.
            let k = any_below_elim d.actions alls e in
            let both = and_split (is_marked actions k.0) (other_than (effect_at d k.0 v) (get_or d.starts v 0)) k.2 in
            split (is_marked kept_before k.0)
            (λ q. or_right (any_below d.actions news) (any_below_intro d.actions olds k.0 k.1 (and_join q both.1)))
            (λ q. or_left (any_below d.actions olds) (any_below_intro d.actions news k.0 k.1 (and_join (new_differs (get_or actions k.0 0) (get_or kept_before k.0 0) both.0 q) both.1))))

    marks : Marks
    marks = held_marks (held d) actions facts

    -- linked, by the entries
    linked_now : (v e : ℕ) → v < d.variables → linked_cell level e (get_or d.starts v 0) (get_or threats' v 0) ≡ linked (held d) level (kept marks) v e
    unfolding linked_cell linked marks
    linked_now v e h =
        ap₂ (λ (x : ℕ) (b : Bool). leb 3 level && (eqb e x && b)) (sym (start_held d v h))
        (ap (λ (n : ℕ). eqb n 0) (threats_now v h)
        ∙ bit_empty (threatened (held d) (is_marked actions) v)
        ∙ ap not
        (threatened_held d (is_marked actions) v h
        ∙ any_same d.actions (λ a. is_marked actions a && other_than (effect_at d a v) (get_or d.starts v 0)) (λ a. kept (held_marks (held d) actions facts) a && other_than (effect_at d a v) (get_or d.starts v 0)) (λ a l. ap (λ (b : Bool). b && other_than (effect_at d a v) (get_or d.starts v 0)) (sym (kept_held d actions facts a l)))
        ∙ sym (threatened_held d (kept (held_marks (held d) actions facts)) v h)))

    fact_now : (v e : ℕ) → v < d.variables → e < 32 → is_marked facts (32 * v + e) ≡ relevant marks v e
    unfolding marks
    fact_now v e h k =
        same_truth _ _
        (λ q. let inside = p.fact_known v e (omega (arith, few)) k q in relevant_held d actions facts v e h inside.1 ∙ q)
        (λ q. let inside = relevant_inside d actions facts v e q in sym (relevant_held d actions facts v e h inside.1) ∙ q)

    -- the unlinked facts
    module _ (u : List ℕ) (at : (i : ℕ) → i < 32 * d.variables → get_or u i 0 ≡ bit (unlinked_at level facts d.starts threats' i)) where
      pub unlinked_now : (v e : ℕ) → v < d.variables → e < 32 → get_or u (32 * v + e) 0 ≡ bit (unlinked (held d) level (held_marks (held d) actions facts) v e)
      unfolding unlinked_at unlinked marks
      unlinked_now v e h k =
          let variable : (32 * v + e) / 32 ≡ v = omega arith in
          let value : (32 * v + e) % 32 ≡ e = omega arith in
          at (32 * v + e) (omega arith)
          ∙ ap₂ (λ (w x : ℕ). bit (is_marked facts (32 * v + e) && not (linked_cell level x (get_or d.starts w 0) (get_or threats' w 0)))) variable value
          ∙ ap₂ (λ (a b : Bool). bit (a && not b)) (fact_now v e h k) (linked_now v e h)

      pub unlinked_marked : (v e : ℕ) → v < d.variables → e < 32 → is_marked u (32 * v + e) ≡ unlinked (held d) level (held_marks (held d) actions facts) v e
      unlinked_marked v e h k = ap (λ (n : ℕ). eqb n 1) (unlinked_now v e h k) ∙ bit_marked (unlinked (held d) level (held_marks (held d) actions facts) v e)

      unlinked_inside : (v e : ℕ) → unlinked (held d) level (held_marks (held d) actions facts) v e ≡ true → e < size_of (held d) v
      unfolding unlinked
      unlinked_inside v e q = (relevant_inside d actions facts v e (and_split (relevant (held_marks (held d) actions facts) v e) _ q).0).1

      pub tracked_now_lem : (v : ℕ) → v < d.variables → tracked_at u v ≡ tracked (held d) level (held_marks (held d) actions facts) v
      unfolding tracked_at tracked
      tracked_now_lem v h =
          any_same 32 (λ e. is_marked u (32 * v + e)) (unlinked (held d) level (held_marks (held d) actions facts) v) (λ e k. unlinked_marked v e h k)
          ∙ any_bound (size_of (held d) v) 32 (unlinked (held d) level (held_marks (held d) actions facts) v) (ok.size_most v) (λ e k q. unlinked_inside v e q)
