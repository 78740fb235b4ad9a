-- The actions that a round gains from the facts that became unlinked are those that it gains from all unlinked facts.
use Prim.Native.Nat.{ℕ, ◌+◌, ◌*◌, ◌/◌, ◌%◌, ◌<◌}
use mathlib.Core.Path.{◌≡◌, refl, sym, ap, ap₂, subst, ◌∙◌}
use mathlib.Core.Bool.{Bool, true, false, not, cond, ◌&&◌, ◌||◌}
use mathlib.Core.List.{List}
use mathlib.Core.Logic.{◌⊎◌, inl, inr, ⊎_elim}
use native.Mathlib.Omega.{arith}
use lib.Dec.{eqb, ltb}
use lib.ListN.{get_or}
use borrow.Author.Tests.{eqb-true, eq-eqb, ne_eqb, lt-ltb}
use Rattle.files.specs.Below.{any_below, bit, any_of}
use Rattle.files.specs.Dense.{held}
use Rattle.files.specs.declared.arrays.Arrays.{Arrays}
use Rattle.files.specs.Task.{Pair, size_of}
use Rattle.files.proofs.BelowLaws.{any_below_intro, any_below_elim, bit_most}
use Rattle.files.proofs.Logic.{clash, split, and_split, and_join, or_split, or_left, or_right}
use Rattle.files.proofs.Valid.{Valid}
use Rattle.plans.specs.State.{has_fact}
use Rattle.marking.specs.Marks.{Marks, kept, relevant}
use Rattle.marking.specs.Links.{linked, unlinked, has_relevant, gains_action}
use Rattle.marking.specs.Dense.{SetWhere, is_marked, differ, sets, achieves}
use Rattle.marking.proofs.HeldMarks.{held_marks, kept_held, relevant_held, relevant_inside}
use Rattle.files.proofs.HeldTask.{actions_held, effect_at, effects_held, effect_valid}
use Rattle.marking.proofs.LinkLaws.{unlinked_intro, gains_action_intro}
use Rattle.marking.proofs.Progress.{Progress}
use Rattle.marking.proofs.RoundLinks.{differ_new, new_differs}
use Rattle.marking.proofs.RowTests.{any_row, row_fact}
use Rattle.files.proofs.Truth.{same_truth, marked_bit, cond_bit}

module _ (d : Arrays) (ok : Valid (held d)) (level : ℕ) (actions facts unlinked_before threats kept_before counted_before : List ℕ) (p : Progress d level actions facts unlinked_before threats kept_before counted_before) where
  abbrev marks : Marks
  marks = held_marks (held d) actions facts

  -- the fact of an unlinked place
  pub record Unlinked (v e : ℕ) : Type 0 where
    pub inside : e < size_of (held d) v
    pub fact : relevant marks v e ≡ true

  pub unlinked_says : (v e : ℕ) → unlinked (held d) level marks v e ≡ true → Unlinked v e
  unfolding unlinked
  unlinked_says v e q =
      let fact = (and_split (relevant marks v e) (not (linked (held d) level (kept marks) v e)) q).0 in
      record { inside = (relevant_inside d actions facts v e fact).1; fact = fact }

  -- an action with an unlinked effect is gained
  pub achieves_gains : (a v : ℕ) → a < d.actions → v < d.variables → eqb (effect_at d a v) 255 ≡ false → unlinked (held d) level marks v (effect_at d a v) ≡ true → gains_action (held d) level marks a ≡ true
  achieves_gains a v l h there q =
      let e = effect_at d a v in
      let s = unlinked_says v e q in
      gains_action_intro (held d) level marks a v e s.inside s.fact q
      (ap (λ (ps : List Pair). has_fact ps v e) (effects_held d a l)
      ∙ row_fact d.effects (64 * a) d.variables v h e
      ∙ and_join (ap not there) (eq-eqb e e refl))

  -- and the other way round
  pub record Achieved (a : ℕ) : Type 0 where
    pub variable : ℕ
    pub known : variable < d.variables
    pub there : eqb (effect_at d a variable) 255 ≡ false
    pub free : unlinked (held d) level marks variable (effect_at d a variable) ≡ true

  gains_says : (a : ℕ) → a < d.actions → gains_action (held d) level marks a ≡ any_below d.variables (λ v. not (eqb (effect_at d a v) 255) && cond (eqb level 1) (has_relevant (held d) marks v) (unlinked (held d) level marks v (effect_at d a v)))
  unfolding gains_action
  gains_says a l =
      ap (any_of (λ e. cond (eqb level 1) (has_relevant (held d) marks e.variable) (unlinked (held d) level marks e.variable e.value))) (effects_held d a l)
      ∙ any_row d.effects (64 * a) (λ v e. cond (eqb level 1) (has_relevant (held d) marks v) (unlinked (held d) level marks v e)) d.variables

  -- at level 1 the whole variable is relevant, and nothing is linked
  whole_unlinked : (v x : ℕ) → level ≡ 1 → v < d.variables → x < size_of (held d) v → has_relevant (held d) marks v ≡ true → unlinked (held d) level marks v x ≡ true
  unfolding has_relevant linked
  whole_unlinked v x one h k q =
      let found = any_below_elim (size_of (held d) v) (relevant marks v) q in
      let seen : is_marked facts (32 * v + found.0) ≡ true = sym (relevant_held d actions facts v found.0 h found.1) ∙ found.2 in
      unlinked_intro (held d) level marks v x (relevant_held d actions facts v x h k ∙ p.whole one v found.0 x h found.1 k seen) (rw one refl)

  achieved : (a : ℕ) → a < d.actions → gains_action (held d) level marks a ≡ true → Achieved a
  achieved a l q =
      let f : ℕ → Bool = λ v. not (eqb (effect_at d a v) 255) && cond (eqb level 1) (has_relevant (held d) marks v) (unlinked (held d) level marks v (effect_at d a v)) in
      let found = any_below_elim d.variables f (sym (gains_says a l) ∙ q) in
      let v : ℕ = found.0 in
      let e : ℕ = effect_at d a v in
      let both = and_split (not (eqb e 255)) (cond (eqb level 1) (has_relevant (held d) marks v) (unlinked (held d) level marks v e)) found.2 in
      let there : eqb e 255 ≡ false = split (eqb e 255) (λ r. clash both.0 (ap not r)) (λ r. r) in
      record {
        variable = v;
        known = found.1;
        there = there;
        free =
            split (eqb level 1)
            (λ r.
            whole_unlinked v e (eqb-true level 1 r) found.1 (effect_valid d ok a v l found.1 there)
            (sym (ap (λ (b : Bool). cond b (has_relevant (held d) marks v) (unlinked (held d) level marks v e)) r) ∙ both.1))
            (λ r. sym (ap (λ (b : Bool). cond b (has_relevant (held d) marks v) (unlinked (held d) level marks v e)) r) ∙ both.1);
      }

  module _ (u : List ℕ) (now : (v e : ℕ) → v < d.variables → e < 32 → get_or u (32 * v + e) 0 ≡ bit (unlinked (held d) level marks v e)) (is_marked_here : (v e : ℕ) → v < d.variables → e < 32 → is_marked u (32 * v + e) ≡ unlinked (held d) level marks v e) where
    anew : ℕ → ℕ → Bool
    anew a i = differ u unlinked_before i && sets d.effects (i / 32) (i % 32) d.actions a

    achieves_says : (a : ℕ) → achieves d.effects d.actions unlinked_before u (32 * d.variables) a ≡ any_below (32 * d.variables) (anew a)
    unfolding achieves anew
    achieves_says a = refl

    new_gains : (a : ℕ) → a < d.actions → achieves d.effects d.actions unlinked_before u (32 * d.variables) a ≡ true → gains_action (held d) level marks a ≡ true
    unfolding anew sets
    new_gains a l q =
        let found = any_below_elim (32 * d.variables) (anew a) (sym (achieves_says a) ∙ q) in
        let i : ℕ = found.0 in
        let v : ℕ = i / 32 in
        let e : ℕ = i % 32 in
        let known : v < d.variables = omega (arith, found.1) in
        let small : e < 32 = omega arith in
        let both = and_split (differ u unlinked_before i) (sets d.effects v e d.actions a) found.2 in
        let sets_it : effect_at d a v ≡ e = eqb-true (effect_at d a v) e (and_split (ltb a d.actions) (eqb (effect_at d a v) e) both.1).1 in
        let place : i ≡ 32 * v + e = omega arith in
        let differs : differ u unlinked_before (32 * v + e) ≡ true = subst (λ (n : ℕ). differ u unlinked_before n ≡ true) place both.0 in
        let free : is_marked u (32 * v + e) ≡ true =
        differ_new (get_or u (32 * v + e) 0) (get_or unlinked_before (32 * v + e) 0) (omega (arith, now v e known small, bit_most (unlinked (held d) level marks v e))) (p.before_bit v e known small)
        (λ r. is_marked_here v e known small ∙ p.before_unlinked v e known small r) differs in
        achieves_gains a v l known (ne_eqb (effect_at d a v) 255 (λ r. omega arith))
        (ap (unlinked (held d) level marks v) sets_it ∙ sym (is_marked_here v e known small) ∙ free)

    gains_new : (a : ℕ) → a < d.actions → gains_action (held d) level marks a ≡ true → (achieves d.effects d.actions unlinked_before u (32 * d.variables) a ≡ true) ⊎ (is_marked actions a ≡ true)
    unfolding anew sets
    gains_new a l q =
        let g = achieved a l q in
        let v : ℕ = g.variable in
        let e : ℕ = effect_at d a v in
        let known : v < d.variables = g.known in
        let small : e < 32 = omega (arith, effect_valid d ok a v l known g.there, ok.size_most v) in
        let free : is_marked u (32 * v + e) ≡ true = is_marked_here v e known small ∙ g.free in
        split (is_marked unlinked_before (32 * v + e))
        (λ r. inr (p.before_kept a v l known g.there r))
        (λ r.
        let variable : (32 * v + e) / 32 ≡ v = omega arith in
        let value : (32 * v + e) % 32 ≡ e = omega arith in
        let set_there : sets d.effects ((32 * v + e) / 32) ((32 * v + e) % 32) d.actions a ≡ true =
        and_join (lt-ltb a d.actions l) (ap₂ (λ (w x : ℕ). eqb (get_or d.effects (64 * a + w) 0) x) variable value ∙ eq-eqb e e refl) in
        inl
        (achieves_says a
        ∙ any_below_intro (32 * d.variables) (anew a) (32 * v + e) (omega arith)
        (and_join (new_differs (get_or u (32 * v + e) 0) (get_or unlinked_before (32 * v + e) 0) free r) set_there)))

    pub actions_now : (actions' : List ℕ) → SetWhere (achieves d.effects d.actions unlinked_before u (32 * d.variables)) actions actions' → (a : ℕ) → a < d.actions → get_or actions' a 0 ≡ bit (kept marks a || gains_action (held d) level marks a)
    actions_now actions' s a l =
        s.entry a (omega (arith, p.actions_long, ok.actions_few, actions_held d))
        ∙ ap (λ (n : ℕ). cond (achieves d.effects d.actions unlinked_before u (32 * d.variables) a) 1 n) (marked_bit (get_or actions a 0) (p.action_bit a l))
        ∙ cond_bit (achieves d.effects d.actions unlinked_before u (32 * d.variables) a) (is_marked actions a)
        ∙ ap bit
        (same_truth (achieves d.effects d.actions unlinked_before u (32 * d.variables) a || is_marked actions a) (kept marks a || gains_action (held d) level marks a)
        (λ q.
        ⊎_elim
        (λ new. or_right (kept marks a) (new_gains a l new))
        (λ old. or_left (gains_action (held d) level marks a) (kept_held d actions facts a l ∙ old))
        (or_split (achieves d.effects d.actions unlinked_before u (32 * d.variables) a) (is_marked actions a) q))
        (λ q.
        ⊎_elim
        (λ old. or_right (achieves d.effects d.actions unlinked_before u (32 * d.variables) a) (sym (kept_held d actions facts a l) ∙ old))
        (λ new.
        ⊎_elim
        (λ x. or_left (is_marked actions a) x)
        (λ x. or_right (achieves d.effects d.actions unlinked_before u (32 * d.variables) a) x)
        (gains_new a l new))
        (or_split (kept marks a) (gains_action (held d) level marks a) q)))
