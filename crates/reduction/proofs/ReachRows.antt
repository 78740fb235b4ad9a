-- The facts of a row's cells by their places, and the sets of actions that ask for them: an action's count is that of the
-- places whose sets have it.
use Prim.Native.Nat.{ℕ, zero, suc, ◌+◌, ◌*◌, ◌/◌, ◌%◌, ◌<◌}
use mathlib.Core.Path.{◌≡◌, refl, sym, ap, ◌∙◌}
use mathlib.Core.Bool.{Bool, true, false, not, ◌&&◌, ◌||◌, and-true, and-false, or-false}
use mathlib.Core.List.{List}
use native.Mathlib.Omega.{arith}
use native.Mathlib.Nat.{not-suc-le-zero}
use native.Mathlib.Numerals.{add-one}
use lib.Dec.{eqb}
use lib.ListN.{get_or}
use borrow.Author.Tests.{eqb-true, eqb-false, eq-eqb, ne_eqb}
use Rattle.bits.specs.Sets.{Added}
use Rattle.bits.proofs.BitLaws.{in_rows_with}
use Rattle.files.specs.Below.{bit, count_below}
use Rattle.files.proofs.BelowLaws.{any_below_elim, bit_true, bit_false}
use Rattle.files.proofs.Logic.{split, split_le, and_split, or_right}
use Rattle.marking.specs.Dense.{names_at, row_names}
use Rattle.marking.proofs.Places.{place_is}
use Rattle.reduction.specs.ReachDense.{cell_fact, row_facts, asks_for, asked, Asking}
use Rattle.reduction.proofs.NamedHeld.{count_alike}

-- none passes
pub count_zero : (n : ℕ) (f : ℕ → Bool) → ((i : ℕ) → i < n → f i ≡ false) → count_below n f ≡ 0
count_zero zero f h = refl
count_zero (suc n) f h = omega (arith, bit_false (f n) (h n (omega arith)), count_zero n f (λ i l. h i (omega arith)))

-- one more passes than before
pub count_more : (n : ℕ) (f g : ℕ → Bool) (p : ℕ) → p < n → f p ≡ false → g p ≡ true → ((i : ℕ) → i < n → (i ≡ p → ⊥) → g i ≡ f i) → count_below n g ≡ count_below n f + 1
count_more zero f g p h off on same = absurd (not-suc-le-zero h)
count_more (suc n) f g p h off on same =
    split_le n p
    (λ last.
    let here : p ≡ n = omega arith in
    let rest : count_below n g ≡ count_below n f = count_alike n g f (λ i l. same i (omega arith) (λ q. omega arith)) in
    omega (arith, rest, bit_false (f n) (ap f (sym here) ∙ off), bit_true (g n) (ap g (sym here) ∙ on)))
    (λ below.
    let rest = count_more n f g p below off on (λ i l. same i (omega arith)) in
    let last : bit (g n) ≡ bit (f n) = ap bit (same n (omega arith) (λ q. omega arith)) in
    omega (arith, rest, last))

-- the fact of a cell
pub cell_none : (v cell i : ℕ) → cell ≡ 255 → cell_fact v cell i ≡ false
unfolding names_at
cell_none v cell i e = rw (eq-eqb cell 255 e) refl

pub cell_place : (v cell i : ℕ) → (cell ≡ 255 → ⊥) → cell_fact v cell i ≡ eqb i (32 * v + cell % 32)
unfolding names_at
cell_place v cell i e = rw (ne_eqb cell 255 e) (sym (place_is v (cell % 32) i (omega arith)) ∙ and-true (eqb i (32 * v + cell % 32)))

module _ (row : List ℕ) (base : ℕ) where
  pub row_none : (i : ℕ) → row_facts row base 0 i ≡ false
  unfolding row_names
  row_none i = refl

  pub row_next : (v i : ℕ) → row_facts row base (v + 1) i ≡ cell_fact v (get_or row (base + v) 0) i || row_facts row base v i
  unfolding row_names names_at
  row_next v i = ap (λ (n : ℕ). row_facts row base n i) (add-one v)

  -- their places come before those of the next variable
  pub row_below : (count i : ℕ) → row_facts row base count i ≡ true → i < 32 * count
  unfolding row_names names_at
  row_below count i e =
      let k = any_below_elim count _ e in
      let both = and_split (not (eqb (get_or row (base + k.0) 0) 255)) _ k.2 in
      let variable : i / 32 ≡ k.0 = eqb-true (i / 32) k.0 (and_split (eqb (i / 32) k.0) _ both.1).0 in
      omega (arith, k.1)

-- an action is put into the set of a cell's fact
pub ask_none : (v cell a : ℕ) (rows : List ℕ) → cell ≡ 255 → Asking (cell_fact v cell) a rows rows
ask_none v cell a rows e i j l =
    sym (ap (λ (b : Bool). asks_for rows j i || (eqb j a && b)) (cell_none v cell i e) ∙ ap (λ (b : Bool). asks_for rows j i || b) (and-false (eqb j a)) ∙ or-false (asks_for rows j i))

pub ask_one : (v cell a : ℕ) (rows after : List ℕ) → (cell ≡ 255 → ⊥) → a < 512 → Added (8 * (32 * v + cell % 32)) a rows after → Asking (cell_fact v cell) a rows after
ask_one v cell a rows after e few added i j l =
    in_rows_with rows after (32 * v + cell % 32) a added few i j l
    ∙ ap (λ (b : Bool). asks_for rows j i || b)
    (swapped (eqb i (32 * v + cell % 32)) (eqb j a) ∙ ap (λ (b : Bool). eqb j a && b) (sym (cell_place v cell i e)))
  where
    swapped : (a b : Bool) → a && b ≡ b && a
    swapped true true = refl
    swapped true false = refl
    swapped false true = refl
    swapped false false = refl

-- an action that asks for nothing
pub asked_none : (rows : List ℕ) (a : ℕ) → ((i : ℕ) → asks_for rows a i ≡ false) → 0 ≡ asked rows a
unfolding asked
asked_none rows a empty = sym (count_zero 2048 (asks_for rows a) (λ i l. empty i))

module _ (conditions : List ℕ) (base a : ℕ) where
  pub asking_begins : (rows : List ℕ) → Asking (row_facts conditions base 0) a rows rows
  unfolding row_names
  asking_begins rows i j l = sym (ap (λ (b : Bool). asks_for rows j i || b) (and-false (eqb j a)) ∙ or-false (asks_for rows j i))

  pub asking_next : (v : ℕ) (before rows after : List ℕ) → Asking (row_facts conditions base v) a before rows → Asking (cell_fact v (get_or conditions (base + v) 0)) a rows after
      → Asking (row_facts conditions base (v + 1)) a before after
  asking_next v before rows after to step i j l =
      let cell = get_or conditions (base + v) 0 in
      step i j l
      ∙ ap (λ (b : Bool). b || (eqb j a && cell_fact v cell i)) (to i j l)
      ∙ joined (asks_for before j i) (eqb j a) (row_facts conditions base v i) (cell_fact v cell i)
      ∙ ap (λ (b : Bool). asks_for before j i || (eqb j a && b)) (sym (row_next conditions base v i))
    where
      joined : (w x y z : Bool) → (w || (x && y)) || (x && z) ≡ w || (x && (z || y))
      joined true x y z = refl
      joined false true true true = refl
      joined false true true false = refl
      joined false true false z = or_false_back z
        where
          or_false_back : (b : Bool) → b ≡ b || false
          or_false_back true = refl
          or_false_back false = refl
      joined false false y z = refl

  -- the count of an action that asked for nothing before
  module _ (few : a < 512) (v : ℕ) (before rows after : List ℕ) (empty : (i : ℕ) → asks_for before a i ≡ false)
      (to : Asking (row_facts conditions base v) a before rows) (step : Asking (cell_fact v (get_or conditions (base + v) 0)) a rows after) where
    abbrev cell : ℕ
    cell = get_or conditions (base + v) 0

    own : (i : ℕ) → asks_for rows a i ≡ row_facts conditions base v i
    own i = to i a few ∙ rw (empty i, eq-eqb a a refl) refl

    next : (i : ℕ) → asks_for after a i ≡ asks_for rows a i || cell_fact v cell i
    next i = step i a few ∙ rw (eq-eqb a a refl) refl

    asked_same : cell ≡ 255 → asked after a ≡ asked rows a
    unfolding asked
    asked_same e =
        count_alike 2048 (asks_for after a) (asks_for rows a)
        (λ i l. next i ∙ ap (λ (b : Bool). asks_for rows a i || b) (cell_none v cell i e) ∙ or-false (asks_for rows a i))

    asked_more : v < 64 → (cell ≡ 255 → ⊥) → asked after a ≡ asked rows a + 1
    unfolding asked
    asked_more known there =
        let place : ℕ = 32 * v + cell % 32 in
        count_more 2048 (asks_for rows a) (asks_for after a) place (omega arith)
        (split (asks_for rows a place) (λ q. absurd (let low : place < 32 * v = row_below conditions base v place (sym (own place) ∙ q) in omega arith)) (λ q. q))
        (next place ∙ or_right (asks_for rows a place) (cell_place v cell place there ∙ eq-eqb place place refl))
        (λ i l apart. next i ∙ ap (λ (b : Bool). asks_for rows a i || b) (cell_place v cell i there ∙ ne_eqb i place apart) ∙ or-false (asks_for rows a i))

    pub asked_next : v < 64 → (count one : ℕ) → count ≡ asked rows a → one ≡ bit (not (eqb cell 255)) → count + one ≡ asked after a
    asked_next known count one is_count is_one =
        split (eqb cell 255)
        (λ e.
        let none : one ≡ 0 = is_one ∙ ap (λ (b : Bool). bit (not b)) e in
        omega (arith, is_count, none, asked_same (eqb-true cell 255 e)))
        (λ e.
        let some : one ≡ 1 = is_one ∙ ap (λ (b : Bool). bit (not b)) e in
        omega (arith, is_count, some, asked_more known (eqb-false cell 255 e)))
