-- Offers to the states that differ from one in free variables only: value by value, and that these are all.
use Prim.Native.Nat.{ℕ, zero, suc, ◌+◌, ◌-◌, ◌*◌, ◌≤◌, ◌<◌}
use mathlib.Core.Path.{◌≡◌, refl, sym, ap, ◌∙◌}
use mathlib.Core.Bool.{Bool, true, false, cond, ◌&&◌, ◌||◌}
use mathlib.Core.List.{List}
use native.Mathlib.Nat.{mul-zero}
use native.Mathlib.Numerals.{add-one}
use native.Mathlib.Omega.{arith}
use lib.Dec.{eqb, leb}
use lib.ListN.{length, get_or}
use borrow.Author.Tests.{eqb-true, eqb-false, eq-eqb, leb-true, le-leb}
use Rattle.files.specs.declared.arrays.Arrays.{Arrays}
use Rattle.files.specs.Below.{any_below}
use Rattle.files.proofs.BelowLaws.{all_below_intro, all_below_elim, any_below_intro, any_below_elim}
use Rattle.files.proofs.Logic.{clash, split, split_le, and_split, and_join}
use Rattle.files.proofs.Truth.{same_truth}
use Rattle.plans.specs.State.{State}
use Rattle.distances.specs.Entries.{less_entry, lowered, table_entry}
use Rattle.lookup.specs.Moves.{row_weight}
use Rattle.distances.specs.Rows.{row_states, row_state}
use Rattle.distances.specs.Settling.{Offered}
use Rattle.distances.specs.Selecting.{Selecting, Offers}
use Rattle.distances.specs.declared.selection.Selection.{Selection}
use Rattle.bits.specs.Sets.{in_word, FirstFrom}
use Rattle.distances.specs.Tables.{Numbered}
use Rattle.distances.specs.Offers.{differs_in, differs_from, OfferFrom, OfferValues}
use Rattle.distances.specs.declared.Entry.{Entry}
use Rattle.lookup.proofs.MoveLoops.{product_most}
use Rattle.distances.proofs.RowNumbers.{weight_most}
use Rattle.distances.proofs.OneChange.{changed, changed_here, changed_other, state_inside, same_number, change_below, change_state}

module _ (count : ℕ) (e : Entry) where
  pub offered_alike : (f g : ℕ → Bool) (entries₀ entries : List Entry) → ((s : ℕ) → s < count → f s ≡ g s)
      → Offered f count e entries₀ entries → Offered g count e entries₀ entries
  offered_alike f g entries₀ entries h o s l = o s l ∙ ap (λ (b : Bool). cond b (lowered e (table_entry entries₀ s)) (table_entry entries₀ s)) (h s l)

  -- a second offer changes nothing more
  lowered_twice : (y : Entry) → lowered e (lowered e y) ≡ lowered e y
  unfolding lowered
  lowered_twice y =
      split (less_entry e y)
      (λ h. rw h (same_either (less_entry e e)))
      (λ h. rw (h, h) refl)
    where
      same_either : (b : Bool) → cond b e e ≡ e
      same_either true = refl
      same_either false = refl

  -- offers to the states of one test, then of another
  pub offered_more : (f g : ℕ → Bool) (entries₀ entries entries' : List Entry) → Offered f count e entries₀ entries → Offered g count e entries entries' → Offered (λ s. g s || f s) count e entries₀ entries'
  offered_more f g entries₀ entries entries' o p s l =
      let old : Entry = table_entry entries₀ s in
      p s l
      ∙ ap (λ (y : Entry). cond (g s) (lowered e y) y) (o s l)
      ∙ split (g s)
      (λ b. rw b (split (f s) (λ c. rw c (lowered_twice old)) (λ c. rw c refl)))
      (λ b. rw b refl)

-- the loop over values: those below z have been offered from
module _ (test : ℕ → ℕ → Bool) (size : ℕ) (e : Entry) (entries₀ : List Entry) (x₀ : Selection) where
  pub record Turns (entries : List Entry) (x : Selection) (z : ℕ) : Type 0 where
    pub same : length entries ≡ length entries₀
    pub offered : Offered (λ s. any_below z (λ i. test i s)) (length entries₀) e entries₀ entries
    pub settled_is : x.settled ≡ x₀.settled
    pub selecting : Selecting entries x

  module _ (entries : List Entry) (x : Selection) (z : ℕ) (t : Turns entries x z) where
    pub turns_next : (entries' : List Entry) (x' : Selection) → length entries' ≡ length entries → Offers (test z) e entries x entries' x' → Turns entries' x' (z + 1)
    turns_next entries' x' a o =
        record {
          same = a ∙ t.same;
          offered =
              λ s l.
              offered_more (length entries₀) e (λ r. any_below z (λ i. test i r)) (test z) entries₀ entries entries' t.offered (λ r m. o.offered r (omega (arith, t.same))) s l
              ∙ ap (λ (k : ℕ). cond (any_below k (λ i. test i s)) (lowered e (table_entry entries₀ s)) (table_entry entries₀ s)) (sym (add-one z));
          settled_is = o.settled_is ∙ t.settled_is;
          selecting = o.selecting;
        }

    pub turns_end : (f : ℕ → Bool) → z ≡ size → ((s : ℕ) → s < length entries₀ → any_below size (λ i. test i s) ≡ f s) → Offers f e entries₀ x₀ entries x
    turns_end f is g =
        record {
          offered =
              offered_alike (length entries₀) e (λ s. any_below z (λ i. test i s)) f entries₀ entries
              (λ s l. ap (λ (k : ℕ). any_below k (λ i. test i s)) is ∙ g s l) t.offered;
          settled_is = t.settled_is;
          selecting = t.selecting;
        }

any_alike : (n : ℕ) (f g : ℕ → Bool) → ((i : ℕ) → i < n → f i ≡ g i) → any_below n f ≡ any_below n g
any_alike zero f g h = refl
any_alike (suc n) f g h = rw (h n (omega arith), any_alike n f g (λ i l. h i (omega arith))) refl

-- states that differ only in free variables from one on
module _ (free : ℕ → Bool) (n from : ℕ) (s r : State) where
  abbrev is_free : ℕ → Bool
  is_free v = leb from v && free v

  pub differs_elim : differs_in free n from s r ≡ true → (v : ℕ) → v < n → is_free v ≡ false → r v ≡ s v
  unfolding differs_in
  differs_elim e v h f = eqb-true (r v) (s v) (sym (ap (λ (b : Bool). cond b true (eqb (r v) (s v))) f) ∙ all_below_elim n (λ u. cond (is_free u) true (eqb (r u) (s u))) e v h)

  pub differs_intro : ((v : ℕ) → v < n → is_free v ≡ false → r v ≡ s v) → differs_in free n from s r ≡ true
  unfolding differs_in
  differs_intro f =
      all_below_intro n (λ u. cond (is_free u) true (eqb (r u) (s u)))
      (λ v h. split (is_free v) (λ b. rw b refl) (λ b. rw b (eq-eqb (r v) (s v) (f v h b))))

pub free_true : (free : ℕ → Bool) (from v : ℕ) → from ≤ v → free v ≡ true → leb from v && free v ≡ true
free_true free from v h f = and_join (le-leb from v h) f

pub free_false : (free : ℕ → Bool) (from v : ℕ) → (from ≤ v → free v ≡ true → ⊥) → leb from v && free v ≡ false
free_false free from v h =
    split (leb from v && free v)
    (λ b. let both = and_split (leb from v) (free v) b in absurd (h (leb-true from v both.0) both.1))
    (λ b. b)

module _ (sizes weights : List ℕ) (n count free : ℕ) (w : Numbered n count sizes weights) where
  abbrev test : ℕ → Bool
  test = in_word free

  -- no variable is free between
  skip : (from next number : ℕ) → from ≤ next → ((v : ℕ) → from ≤ v → v < next → in_word free v ≡ false) → (s : ℕ) → differs_from sizes n free next number s ≡ differs_from sizes n free from number s
  skip from next number h none s =
      let g : State = row_state n sizes number in
      let r : State = row_state n sizes s in
      same_truth (differs_in test n next g r) (differs_in test n from g r)
      (λ e. differs_intro test n from g r (λ v l f. differs_elim test n next g r e v l (free_false test next v (λ a t. clash (free_true test from v (omega arith) t) f))))
      (λ e.
      differs_intro test n next g r
      (λ v l f.
      differs_elim test n from g r e v l
      (free_false test from v (λ a t. split_le next v (λ b. clash (free_true test next v b t) f) (λ b. clash t (none v a b))))))

  -- none is left
  none_left : (from number : ℕ) → number < count → ((v : ℕ) → from ≤ v → v < n → in_word free v ≡ false) → (s : ℕ) → s < count → eqb s number ≡ differs_from sizes n free from number s
  none_left from number below none s l =
      let g : State = row_state n sizes number in
      let r : State = row_state n sizes s in
      same_truth (eqb s number) (differs_in test n from g r)
      (λ e. differs_intro test n from g r (λ v h f. ap (λ (k : ℕ). row_state n sizes k v) (eqb-true s number e)))
      (λ e.
      eq-eqb s number
      (same_number sizes n w.size_least s number (omega (arith, w.states)) (omega (arith, w.states))
      (λ v h. differs_elim test n from g r e v h (free_false test from v (λ a t. clash t (none v a h))))))

  -- variable v is the first that is free, and 0
  module _ (from number v : ℕ) (first : FirstFrom (in_word free) n from v) (inside : v < n) (below : number < count) (zero : row_state n sizes number v ≡ 0) where
    here : in_word free v ≡ true
    here = first.there inside

    module _ (weight z : ℕ) (weight_is : weight ≡ get_or weights v 0) (z_inside : z < get_or sizes v 0) where
      number_is : number + weight * z ≡ number - row_weight sizes v * row_state n sizes number v + row_weight sizes v * z
      number_is =
          let none : row_weight sizes v * row_state n sizes number v ≡ 0 = ap (λ (k : ℕ). row_weight sizes v * k) zero ∙ mul-zero (row_weight sizes v) in
          let plain : weight * z ≡ row_weight sizes v * z = ap (λ (k : ℕ). k * z) (weight_is ∙ w.weights_are v inside) in
          omega (arith, none, plain)

      value_below_lem : number + weight * z < count
      value_below_lem = omega (arith, number_is, w.states, change_below sizes n w.size_least number v z (omega (arith, w.states)) inside z_inside)

      value_state : row_state n sizes (number + weight * z) ≡ changed (row_state n sizes number) v z
      value_state = ap (row_state n sizes) number_is ∙ change_state sizes n w.size_least number v z (omega (arith, w.states)) inside z_inside

      -- the other variables are as they were
      value_zero : (u : ℕ) → v < u → row_state n sizes number u ≡ 0 → row_state n sizes (number + weight * z) u ≡ 0
      value_zero u h e = ap (λ (q : State). q u) value_state ∙ changed_other (row_state n sizes number) v z u (λ q. omega arith) ∙ e

    -- the states with each of its values are all
    each_value : (weight size : ℕ) → weight ≡ get_or weights v 0 → size ≡ get_or sizes v 0 → (s : ℕ) → any_below size (λ z. differs_from sizes n free (v + 1) (number + weight * z) s) ≡ differs_from sizes n free from number s
    each_value weight size weight_is size_is s =
        let g : State = row_state n sizes number in
        let r : State = row_state n sizes s in
        let each : ℕ → Bool = λ z. differs_from sizes n free (v + 1) (number + weight * z) s in
        let at : (z : ℕ) → z < size → each z ≡ differs_in test n (v + 1) (changed g v z) r =
        λ z h. ap (λ (q : State). differs_in test n (v + 1) q r) (value_state weight z weight_is (omega (arith, size_is))) in
        let within : r v < size = omega (arith, size_is, state_inside sizes n w.size_least s v inside) in
        same_truth (any_below size each) (differs_in test n from g r)
        (λ e.
        let some = any_below_elim size each e in
        let z = some.0 in
        let differs : differs_in test n (v + 1) (changed g v z) r ≡ true = sym (at z some.1) ∙ some.2 in
        differs_intro test n from g r
        (λ u l f.
        differs_elim test n (v + 1) (changed g v z) r differs u l (free_false test (v + 1) u (λ a t. clash (free_true test from u (omega (arith, first.first)) t) f))
        ∙ changed_other g v z u (λ q. clash (free_true test from u (omega (arith, first.first)) (ap (in_word free) q ∙ here)) f)))
        (λ e.
        any_below_intro size each (r v) within
        (at (r v) within
        ∙ differs_intro test n (v + 1) (changed g v (r v)) r
        (λ u l f.
        split (eqb u v)
        (λ q. let is : u ≡ v = eqb-true u v q in ap r is ∙ sym (changed_here g v (r v)) ∙ ap (changed g v (r v)) (sym is))
        (λ q.
        let d : u ≡ v → ⊥ = eqb-false u v q in
        differs_elim test n from g r e u l
        (free_false test from u
        (λ a t.
        split_le (v + 1) u
        (λ b. clash (free_true test (v + 1) u b t) f)
        (λ b. clash t (first.skipped u a (omega (arith, d))))))
        ∙ sym (changed_other g v (r v) u d)))))

    weight_few : get_or weights v 0 ≤ 4096
    weight_few = omega (arith, w.weights_are v inside, weight_most sizes v n w.size_least (omega (arith, inside)), w.states, w.few)

    module _ (weight size : ℕ) (weight_is : weight ≡ get_or weights v 0) (size_is : size ≡ get_or sizes v 0) where
      -- with the next variable that is free
      all_values : (next : ℕ) → v + 1 ≤ next → ((u : ℕ) → v + 1 ≤ u → u < next → in_word free u ≡ false) → (s : ℕ)
          → any_below size (λ z. differs_from sizes n free next (number + weight * z) s) ≡ differs_from sizes n free from number s
      all_values next h none s =
          any_alike size (λ z. differs_from sizes n free next (number + weight * z) s) (λ z. differs_from sizes n free (v + 1) (number + weight * z) s) (λ z l. skip (v + 1) next (number + weight * z) h none s)
          ∙ each_value weight size weight_is size_is s

      -- with none
      all_values_last : ((u : ℕ) → v + 1 ≤ u → u < n → in_word free u ≡ false) → (s : ℕ) → s < count
          → any_below size (λ z. eqb s (number + weight * z)) ≡ differs_from sizes n free from number s
      all_values_last none s l =
          any_alike size (λ z. eqb s (number + weight * z)) (λ z. differs_from sizes n free (v + 1) (number + weight * z) s)
          (λ z h. none_left (v + 1) (number + weight * z) (value_below_lem weight z weight_is (omega (arith, size_is))) none s l)
          ∙ each_value weight size weight_is size_is s

-- a variable v from which on a state is offered to those with other values
module _ (d : Arrays) (weights : List ℕ) (free from number v : ℕ) (w : Numbered d.variables (row_states d.variables d.sizes) d.sizes weights) (o : OfferFrom d free from number)
    (first : FirstFrom (in_word free) d.variables from v) where
  -- there is none
  pub alone : d.variables ≤ v → (s : ℕ) → s < row_states d.variables d.sizes → eqb s number ≡ differs_from d.sizes d.variables free from number s
  alone h = none_left d.sizes weights d.variables (row_states d.variables d.sizes) free w from number o.below (λ u a l. first.skipped u a (omega arith))

  module _ (inside : v < d.variables) where
    zero_here : row_state d.variables d.sizes number v ≡ 0
    zero_here = o.zero v first.first inside (first.there inside)

    pub value_below : (z : ℕ) → z < get_or d.sizes v 0 → number + get_or weights v 0 * z < row_states d.variables d.sizes
    value_below z h = value_below_lem d.sizes weights d.variables (row_states d.variables d.sizes) free w from number v first inside o.below zero_here (get_or weights v 0) z refl h

    pub value_fits : (z : ℕ) → z < 256 → get_or weights v 0 * z ≤ 1048576
    value_fits z h = product_most (get_or weights v 0) z (weight_few d.sizes weights d.variables (row_states d.variables d.sizes) free w from number v first inside o.below zero_here) h

    pub value_offer : (next : ℕ) → FirstFrom (in_word free) d.variables (v + 1) next → (z : ℕ) → z < get_or d.sizes v 0 → OfferFrom d free next (number + get_or weights v 0 * z)
    value_offer next after z h =
        record {
          start = after.last;
          below = value_below z h;
          zero =
              λ u a l f.
              value_zero d.sizes weights d.variables (row_states d.variables d.sizes) free w from number v first inside o.below zero_here (get_or weights v 0) z refl h u
              (omega (arith, after.first)) (o.zero u (omega (arith, first.first, after.first)) l f);
        }

    pub values_offer : get_or d.sizes v 0 < 256 → OfferValues (row_states d.variables d.sizes) number (get_or weights v 0) (get_or d.sizes v 0)
    values_offer few =
        record {
          weight_few = weight_few d.sizes weights d.variables (row_states d.variables d.sizes) free w from number v first inside o.below zero_here;
          size_few = few;
          inside = value_below;
        }

    -- the states with its values are all
    module _ (next : ℕ) (after : FirstFrom (in_word free) d.variables (v + 1) next) where
      pub every_value : (s : ℕ) → any_below (get_or d.sizes v 0) (λ z. differs_from d.sizes d.variables free next (number + get_or weights v 0 * z) s) ≡ differs_from d.sizes d.variables free from number s
      every_value =
          all_values d.sizes weights d.variables (row_states d.variables d.sizes) free w from number v first inside o.below zero_here (get_or weights v 0) (get_or d.sizes v 0) refl refl next after.first after.skipped

      pub every_value_last : d.variables ≤ next → (s : ℕ) → s < row_states d.variables d.sizes
          → any_below (get_or d.sizes v 0) (λ z. eqb s (number + get_or weights v 0 * z)) ≡ differs_from d.sizes d.variables free from number s
      every_value_last h =
          all_values_last d.sizes weights d.variables (row_states d.variables d.sizes) free w from number v first inside o.below zero_here (get_or weights v 0) (get_or d.sizes v 0) refl refl
          (λ u a l. after.skipped u a (omega arith))
