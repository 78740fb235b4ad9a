-- An entry that no state's is above stays so where entries are lowered, and what is not less than it lowers none.
use Prim.Native.Nat.{ℕ, ◌+◌, ◌<◌}
use mathlib.Core.Path.{◌≡◌, refl, sym, ap, subst, ◌∙◌}
use mathlib.Core.Bool.{Bool, true, false}
use mathlib.Core.List.{List}
use native.Mathlib.Omega.{arith}
use Rattle.files.proofs.Logic.{split, split_le}
use Rattle.distances.specs.Entries.{less_entry, lowered, table_entry}
use Rattle.distances.specs.Settling.{Offered}
use Rattle.distances.specs.Bounds.{NoneAbove, Greater}
use Rattle.distances.specs.declared.Entry.{Entry}
use Rattle.distances.proofs.EntryLaws.{less_entry_self, less_entry_below, less_entry_trans}

-- the greater of two
module _ (first second : Entry) (b : Bool) (is : b ≡ less_entry first second) where
  pub greater_second : b ≡ true → Greater first second second
  greater_second t = record { not_first = less_entry_below first second second (sym is ∙ t) (less_entry_self second); not_second = less_entry_self second }

  pub greater_first : b ≡ false → Greater first second first
  greater_first t = record { not_first = less_entry_self first; not_second = sym is ∙ t }

-- the greatest so far
abbrev pub AboveBelow : (entries : List Entry) (most : Entry) (s : ℕ) → Type 0
AboveBelow entries most s = (t : ℕ) → t < s → less_entry most (table_entry entries t) ≡ false

pub above_next : (entries : List Entry) (most r : Entry) (s : ℕ) → AboveBelow entries most s → Greater most (table_entry entries s) r → AboveBelow entries r (s + 1)
above_next entries most r s a g t h =
    split_le s t
    (λ l. let is : t ≡ s = omega arith in subst (λ (i : ℕ). less_entry r (table_entry entries i) ≡ false) (sym is) g.not_second)
    (λ l. less_entry_trans (table_entry entries t) most r (a t l) g.not_first)

-- offers
module _ (test : ℕ → Bool) (count : ℕ) (e : Entry) (entries : List Entry) (bound : Entry) (above : NoneAbove count entries bound) where
  pub offers_none : less_entry e bound ≡ false → Offered test count e entries entries
  unfolding lowered
  offers_none h s l =
      let y : Entry = table_entry entries s in
      let high : less_entry e y ≡ false = less_entry_trans y bound e (above s l) h in
      split (test s) (λ t. sym (rw (t, high) refl)) (λ t. sym (rw t refl))

  pub above_offered : (entries' : List Entry) → Offered test count e entries entries' → NoneAbove count entries' bound
  unfolding lowered
  above_offered entries' o s l =
      let y : Entry = table_entry entries s in
      let high : less_entry bound y ≡ false = above s l in
      ap (less_entry bound) (o s l)
      ∙ split (test s)
      (λ t. rw t (split (less_entry e y) (λ k. rw k (less_entry_below e y bound k high)) (λ k. rw k high)))
      (λ t. rw t high)
