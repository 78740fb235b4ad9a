-- Conditions that all stand among others: by the cells of their rows, one after the other; and a proper subset, by how many there are.
use Prim.Native.Nat.{ℕ, ◌+◌, ◌*◌, ◌≤◌, ◌<◌}
use mathlib.Core.Path.{◌≡◌, refl, sym, ap, ap₂, ◌∙◌}
use mathlib.Core.Bool.{Bool, true, false, not, ◌&&◌, ◌||◌, and-true, and-false}
use mathlib.Core.List.{List}
use mathlib.Core.Logic.{⊎_elim}
use native.Mathlib.Omega.{arith}
use lib.Dec.{eqb, leb, ltb}
use lib.ListN.{get_or}
use borrow.Author.Tests.{eqb-true, eq-eqb, leb-true, leb-false, lt-leb, le-leb, ltb-true, ltb-false, lt-ltb, le-ltb}
use Rattle.files.specs.Below.{any_below}
use Rattle.files.specs.Dense.{row_pairs}
use Rattle.files.proofs.BelowLaws.{any_below_intro, any_below_elim}
use Rattle.files.proofs.CountOrder.{count_order, count_same}
use Rattle.files.proofs.Logic.{clash, split, split_le, and_join, and_split, or_split}
use Rattle.files.proofs.Truth.{count_none}
use Rattle.marking.specs.Covering.{within, could_cover}
use Rattle.marking.specs.Dense.{other_than, missing, conditions_in, asked_by}
use Rattle.marking.proofs.CoverRows.{within_rows}

-- a cell that is there and stands in the other row is the same there
stands_same : (x y : ℕ) → other_than x y ≡ false → not (eqb x 255) ≡ true → x ≡ y
unfolding other_than
stands_same x y e h = eqb-true x y (split (eqb x y) (λ q. q) (λ q. clash (and_join h (ap not q)) e))

-- a cell that, where it is there, is the same in the other row stands there
same_stands : (x y : ℕ) → (not (eqb x 255) ≡ true → x ≡ y) → other_than x y ≡ false
unfolding other_than
same_stands x y h = split (not (eqb x 255)) (λ e. rw e (ap not (eq-eqb x y (h e)))) (λ e. rw e refl)

module _ (conditions : List ℕ) (variables : ℕ) where
  abbrev there : ℕ → ℕ → Bool
  there base v = not (eqb (get_or conditions (base + v) 0) 255)

  abbrev lacking : ℕ → ℕ → ℕ → Bool
  lacking base other v = other_than (get_or conditions (base + v) 0) (get_or conditions (other + v) 0)

  one_missing : (base other v : ℕ) → v < variables → lacking base other v ≡ true → eqb (missing conditions base other variables) 0 ≡ false
  unfolding missing
  one_missing base other v l e =
      count_none variables (lacking base other) ∙ ap not (any_below_intro variables (lacking base other) v l e)

  none_missing : (base other : ℕ) → ((v : ℕ) → v < variables → lacking base other v ≡ false) → eqb (missing conditions base other variables) 0 ≡ true
  unfolding missing
  none_missing base other h =
      count_none variables (lacking base other)
      ∙ ap not
      (split (any_below variables (lacking base other))
      (λ e. let k = any_below_elim variables (lacking base other) e in clash k.2 (h k.0 k.1))
      (λ e. e))

  each_stands : (base other : ℕ) → eqb (missing conditions base other variables) 0 ≡ true → (v : ℕ) → v < variables → lacking base other v ≡ false
  each_stands base other e v l = split (lacking base other v) (λ q. clash e (one_missing base other v l q)) (λ q. q)

  each_there : (base other : ℕ) → eqb (missing conditions base other variables) 0 ≡ true → (v : ℕ) → v < variables → there base v ≡ true → there other v ≡ true
  each_there base other e v l h =
      ap (λ (x : ℕ). not (eqb x 255)) (sym (stands_same _ _ (each_stands base other e v l) h)) ∙ h

  more : (base other : ℕ) → eqb (missing conditions base other variables) 0 ≡ true → not (eqb (missing conditions other base variables) 0) ≡ ltb (conditions_in conditions base variables) (conditions_in conditions other variables)
  unfolding conditions_in
  more base other e =
      split (eqb (missing conditions other base variables) 0)
      (λ q. rw q (sym (le-ltb _ _ (count_order variables (there other) (there base) (each_there other base q)))))
      (λ q.
      rw q
      (sym
      (lt-ltb _ _
      (split_le (conditions_in conditions other variables) (conditions_in conditions base variables)
      (λ l. clash (none_missing other base (back l)) q)
      (λ l. l)))))
    where
      back : conditions_in conditions other variables ≤ conditions_in conditions base variables → (v : ℕ) → v < variables → lacking other base v ≡ false
      back l v k =
          same_stands _ _
          (λ h.
          sym
          (stands_same _ _ (each_stands base other e v k)
          (count_same variables (there base) (there other) (each_there base other e) l v k ∙ h)))

  -- a proper subset: none is missing, and there are more of the others
  nested_rows : (base other : ℕ) → within (row_pairs conditions base 0 variables) (row_pairs conditions other 0 variables) && not (within (row_pairs conditions other 0 variables) (row_pairs conditions base 0 variables)) ≡ eqb (missing conditions base other variables) 0 && ltb (conditions_in conditions base variables) (conditions_in conditions other variables)
  nested_rows base other =
      ap₂ (λ (p q : Bool). p && not q) (within_rows conditions base other variables) (within_rows conditions other base variables)
      ∙ split (eqb (missing conditions base other variables) 0) (λ e. rw e (more base other e)) (λ e. rw e refl)

-- what could cover what, by the tests that the code makes in turn
module _ (costs conditions : List ℕ) (variables b a : ℕ) where
  abbrev nested : Bool
  nested =
      eqb (missing conditions (64 * b) (64 * a) variables) 0
      && ltb (conditions_in conditions (64 * b) variables) (conditions_in conditions (64 * a) variables)

  abbrev could : Bool
  could = could_cover (asked_by costs conditions variables b) (asked_by costs conditions variables a)

  could_nested : could ≡ leb (get_or costs b 0) (get_or costs a 0) && nested
  unfolding could_cover
  could_nested =
      ap (λ (t : Bool). leb (get_or costs b 0) (get_or costs a 0) && t) (nested_rows conditions variables (64 * b) (64 * a))

  not_nested : nested ≡ false → false ≡ could
  not_nested e = rw (could_nested, e) (sym (and-false (leb (get_or costs b 0) (get_or costs a 0))))

  not_standing : (v : ℕ) → ltb v variables && other_than (get_or conditions (64 * b + v) 0) (get_or conditions (64 * a + v) 0) ≡ true → false ≡ could
  not_standing v e =
      let both = and_split (ltb v variables) _ e in
      not_nested
      (ap (λ (t : Bool). t && ltb (conditions_in conditions (64 * b) variables) (conditions_in conditions (64 * a) variables))
      (one_missing conditions variables (64 * b) (64 * a) v (ltb-true v variables both.0) both.1))

  not_more : conditions_in conditions (64 * a) variables ≤ conditions_in conditions (64 * b) variables → false ≡ could
  not_more l =
      not_nested
      (split (eqb (missing conditions (64 * b) (64 * a) variables) 0)
      (λ e. rw e (le-ltb (conditions_in conditions (64 * b) variables) (conditions_in conditions (64 * a) variables) l))
      (λ e. rw e refl))

  not_dearer : get_or costs a 0 < get_or costs b 0 → false ≡ could
  not_dearer l = rw (could_nested, lt-leb (get_or costs b 0) (get_or costs a 0) l) refl

  all_standing : get_or costs b 0 ≤ get_or costs a 0 → conditions_in conditions (64 * b) variables < conditions_in conditions (64 * a) variables → eqb (missing conditions (64 * b) (64 * a) variables) 0 ≡ could
  all_standing e l =
      rw
      (could_nested, le-leb (get_or costs b 0) (get_or costs a 0) e, lt-ltb (conditions_in conditions (64 * b) variables) (conditions_in conditions (64 * a) variables) l)
      (sym (and-true (eqb (missing conditions (64 * b) (64 * a) variables) 0)))

  -- the three quick tests: a condition that is missing, too few others, the cost
  abbrev lacks : ℕ → Bool
  lacks v = ltb v variables && other_than (get_or conditions (64 * b + v) 0) (get_or conditions (64 * a + v) 0)

  abbrev not_more_here : List ℕ → Bool
  not_more_here counts = leb (get_or counts a 0) (get_or counts b 0)

  abbrev dearer : Bool
  dearer = ltb (get_or costs a 0) (get_or costs b 0)

  module _ (counts : List ℕ) (v : ℕ) (count : get_or counts b 0 ≡ conditions_in conditions (64 * b) variables) (other_count : get_or counts a 0 ≡ conditions_in conditions (64 * a) variables) (first any : Bool) (is_first : first ≡ lacks v) (is_any : any ≡ first || (not_more_here counts || dearer)) where
    pub told_apart : any ≡ true → false ≡ could
    told_apart e =
        ⊎_elim
        (λ l. not_standing v (sym is_first ∙ l))
        (λ r.
        ⊎_elim
        (λ n. not_more (omega (arith, leb-true (get_or counts a 0) (get_or counts b 0) n)))
        (λ d. not_dearer (ltb-true (get_or costs a 0) (get_or costs b 0) d))
        (or_split (not_more_here counts) dearer r))
        (or_split first (not_more_here counts || dearer) (sym is_any ∙ e))

    pub not_told_apart : any ≡ false → eqb (missing conditions (64 * b) (64 * a) variables) 0 ≡ could
    not_told_apart e =
        let both = or_none (not_more_here counts) dearer (or_none first (not_more_here counts || dearer) (sym is_any ∙ e)).1 in
        all_standing
        (ltb-false (get_or costs a 0) (get_or costs b 0) both.1)
        (omega (arith, leb-false (get_or counts a 0) (get_or counts b 0) both.0))
      where
        or_none : (p q : Bool) → p || q ≡ false → (p ≡ false) × (q ≡ false)
        or_none true q e = clash refl e
        or_none false q e = (refl, e)
