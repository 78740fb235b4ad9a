-- A list with marks set where a test passes: in a loop that sets one place a turn, and in a loop whose turns each set many.
use Prim.Native.Nat.{ℕ, ◌+◌, ◌≤◌, ◌<◌}
use mathlib.Core.Path.{◌≡◌, refl, sym, ap, subst, ◌∙◌}
use mathlib.Core.Bool.{Bool, true, false, cond, ◌&&◌, ◌||◌}
use mathlib.Core.List.{List}
use native.Mathlib.Omega.{arith}
use native.Mathlib.Numerals.{add-one}
use lib.Dec.{eqb, ltb}
use lib.ListN.{length, get_or, set, length-set}
use lib.Seq.{get_or-set_same, get_or-set_other}
use borrow.Author.Tests.{eqb-true, eqb-false, lt-ltb, le-ltb}
use Rattle.files.specs.Below.{any_below}
use Rattle.files.proofs.Logic.{split, split_le}
use Rattle.marking.specs.Dense.{SetWhere}

-- what holds at the number that a loop has reached holds at its bound
pub at_end : (P : ℕ → Type 0) (i n : ℕ) → i ≤ n → n ≤ i → P i → P n
at_end P i n h k p = let is : i ≡ n = omega arith in subst P is p

pub set_none : (f : ℕ → Bool) (l : List ℕ) → ((i : ℕ) → f i ≡ false) → SetWhere f l l
set_none f l h = record { same = refl; entry = λ i b. sym (ap (λ (t : Bool). cond t 1 (get_or l i 0)) (h i)) }

-- the same places by another test
pub set_alike : (f g : ℕ → Bool) (old new : List ℕ) → ((i : ℕ) → f i ≡ g i) → SetWhere f old new → SetWhere g old new
set_alike f g old new h s =
    record {
      same = s.same;
      entry = λ i b. s.entry i b ∙ ap (λ (t : Bool). cond t 1 (get_or old i 0)) (h i);
    }

-- where a test allows it, the places of a list; where not, none
pub set_guarded : (b : Bool) (f : ℕ → Bool) (old new : List ℕ) → b ≡ true → SetWhere f old new → SetWhere (λ j. b && f j) old new
set_guarded b f old new e = set_alike f (λ j. b && f j) old new (λ j. sym (ap (λ (t : Bool). t && f j) e))

pub set_skipped : (b : Bool) (f : ℕ → Bool) (l : List ℕ) → b ≡ false → SetWhere (λ j. b && f j) l l
set_skipped b f l e = set_none (λ j. b && f j) l (λ j. ap (λ (t : Bool). t && f j) e)

-- one place
pub set_place : (b : Bool) (l : List ℕ) (p x : ℕ) → p < length l → x ≡ cond b 1 (get_or l p 0) → SetWhere (λ j. eqb j p && b) l (set l p x)
set_place b l p x h e =
    record {
      same = length-set l p x;
      entry =
          λ j k.
          split (eqb j p)
          (λ here.
          let is : j ≡ p = eqb-true j p here in
          let at : get_or (set l p x) p 0 ≡ cond b 1 (get_or l p 0) = get_or-set_same l p x 0 h ∙ e in
          rw (here, is) at)
          (λ other. rw other (get_or-set_other l p j x 0 (eqb-false j p other)));
    }

-- no turn yet
pub places_begin : (g : ℕ → Bool) (l : List ℕ) → SetWhere (λ j. ltb j 0 && g j) l l
places_begin g l = set_none (λ j. ltb j 0 && g j) l (λ j. ap (λ (t : Bool). t && g j) (le-ltb j 0 (omega arith)))

-- turn i sets place i
pub places_next : (g : ℕ → Bool) (old now : List ℕ) (i x : ℕ) → SetWhere (λ j. ltb j i && g j) old now → i < length old → x ≡ cond (g i) 1 (get_or now i 0)
    → SetWhere (λ j. ltb j (i + 1) && g j) old (set now i x)
places_next g old now i x s h e =
    record {
      same = length-set now i x ∙ s.same;
      entry =
          λ j b.
          split_le i j
          (λ above.
          split_le (i + 1) j
          (λ past.
          get_or-set_other now i j x 0 (omega arith)
          ∙ s.entry j b
          ∙ ap (λ (t : Bool). cond (t && g j) 1 (get_or old j 0)) (le-ltb j i (omega arith) ∙ sym (le-ltb j (i + 1) (omega arith))))
          (λ here.
          let is : i ≡ j = omega arith in
          let old_entry : get_or now i 0 ≡ get_or old i 0 = s.entry i h ∙ ap (λ (t : Bool). cond (t && g i) 1 (get_or old i 0)) (le-ltb i i (omega arith)) in
          let set_entry : get_or (set now i x) i 0 ≡ cond (ltb i (i + 1) && g i) 1 (get_or old i 0) =
          get_or-set_same now i x 0 (omega (arith, s.same))
          ∙ e
          ∙ ap (λ (n : ℕ). cond (g i) 1 n) old_entry
          ∙ sym (ap (λ (t : Bool). cond (t && g i) 1 (get_or old i 0)) (lt-ltb i (i + 1) (omega arith))) in
          rw (← is) set_entry))
          (λ below.
          get_or-set_other now i j x 0 (omega arith)
          ∙ s.entry j b
          ∙ ap (λ (t : Bool). cond (t && g j) 1 (get_or old j 0)) (lt-ltb j i below ∙ sym (lt-ltb j (i + 1) (omega arith))));
    }

-- the places of one list, then those of another
pub set_both : (f g : ℕ → Bool) (old now next : List ℕ) → SetWhere f old now → SetWhere g now next → SetWhere (λ j. g j || f j) old next
set_both f g old now next s r =
    record {
      same = r.same ∙ s.same;
      entry =
          λ j b.
          r.entry j (omega (arith, s.same))
          ∙ ap (λ (n : ℕ). cond (g j) 1 n) (s.entry j b)
          ∙ joined (g j) (f j) (get_or old j 0);
    }
  where
    joined : (a b : Bool) (n : ℕ) → cond a 1 (cond b 1 n) ≡ cond (a || b) 1 n
    joined true b n = refl
    joined false b n = refl

-- turn i sets the places that pass its test
pub turns_begin : (l : List ℕ) → SetWhere (λ j. false) l l
turns_begin l = set_none (λ j. false) l (λ j. refl)

pub turns_next : (h : ℕ → ℕ → Bool) (old now next : List ℕ) (i : ℕ) → SetWhere (λ j. any_below i (λ k. h k j)) old now → SetWhere (h i) now next
    → SetWhere (λ j. any_below (i + 1) (λ k. h k j)) old next
turns_next h old now next i s r =
    set_alike (λ j. h i j || any_below i (λ k. h k j)) (λ j. any_below (i + 1) (λ k. h k j)) old next
    (λ j. sym (ap (λ (n : ℕ). any_below n (λ k. h k j)) (add-one i)))
    (set_both (λ j. any_below i (λ k. h k j)) (h i) old now next s r)
