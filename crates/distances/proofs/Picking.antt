-- Picking the open state with the least entry: state by state, and of two stretches of states.
use Prim.Native.Nat.{ℕ, ◌+◌, ◌*◌, ◌≤◌, ◌<◌}
use mathlib.Core.Path.{◌≡◌, refl, sym, subst}
use mathlib.Core.Bool.{Bool, true, false}
use mathlib.Core.List.{List}
use native.Mathlib.Omega.{arith}
use lib.Dec.{eqb}
use lib.ListN.{get_or}
use borrow.Author.Tests.{eqb-true, eqb-false, eq-eqb, ne_eqb}
use Rattle.files.proofs.Logic.{split, split_le}
use Rattle.distances.specs.Entries.{is_none, less_entry, table_entry}
use Rattle.distances.specs.Settling.{Picked, lesser_of}
use Rattle.distances.specs.declared.Entry.{Entry}
use Rattle.distances.proofs.EntryLaws.{less_entry_self, less_entry_below, less_entry_trans}

-- the lesser of two states
module _ (entries : List Entry) (count first second : ℕ) where
  pub lesser_first : second ≡ count → first ≡ lesser_of entries count first second
  unfolding lesser_of
  lesser_first e = sym (rw (eq-eqb second count e) refl)

  pub lesser_second : (second ≡ count → ⊥) → first ≡ count → second ≡ lesser_of entries count first second
  unfolding lesser_of
  lesser_second d e = sym (rw (ne_eqb second count d, eq-eqb first count e) refl)

  pub lesser_less : (second ≡ count → ⊥) → (first ≡ count → ⊥) → less_entry (table_entry entries second) (table_entry entries first) ≡ true → second ≡ lesser_of entries count first second
  unfolding lesser_of
  lesser_less d k e = sym (rw (ne_eqb second count d, ne_eqb first count k, e) refl)

  pub lesser_keep : (second ≡ count → ⊥) → (first ≡ count → ⊥) → less_entry (table_entry entries second) (table_entry entries first) ≡ false → first ≡ lesser_of entries count first second
  unfolding lesser_of
  lesser_keep d k e = sym (rw (ne_eqb second count d, ne_eqb first count k, e) refl)

  -- it is one of the two, by what is known of them
  pub lesser_cases : (P : ℕ → Type 0) → (second ≡ count → P first) → (first ≡ count → (second ≡ count → ⊥) → P second)
      → ((first ≡ count → ⊥) → (second ≡ count → ⊥) → less_entry (table_entry entries second) (table_entry entries first) ≡ true → P second)
      → ((first ≡ count → ⊥) → (second ≡ count → ⊥) → less_entry (table_entry entries second) (table_entry entries first) ≡ false → P first)
      → P (lesser_of entries count first second)
  lesser_cases P a b c d =
      split (eqb second count)
      (λ e. let y = eqb-true second count e in subst P (lesser_first y) (a y))
      (λ e.
      let n : second ≡ count → ⊥ = eqb-false second count e in
      split (eqb first count)
      (λ f. let y = eqb-true first count f in subst P (lesser_second n y) (b y n))
      (λ f.
      let m : first ≡ count → ⊥ = eqb-false first count f in
      split (less_entry (table_entry entries second) (table_entry entries first))
      (λ g. subst P (lesser_less n m g) (c m n g))
      (λ g. subst P (lesser_keep n m g) (d m n g))))

  pub lesser_most : first ≤ count → second ≤ count → lesser_of entries count first second ≤ count
  lesser_most f g = lesser_cases (λ (r : ℕ). r ≤ count) (λ e. f) (λ e d. g) (λ e d l. g) (λ e d l. f)

module _ (entries : List Entry) (settled : List Bool) (count : ℕ) where
  -- an open state with an entry, alone
  pub pick_one : (s : ℕ) → s < count → get_or settled s false ≡ false → is_none (table_entry entries s) ≡ false → Picked entries settled count s (s + 1) s
  pick_one s h o m =
      record {
        range = omega arith;
        inside = λ _. (omega arith, omega arith);
        unsettled = λ _. o;
        has_entry = λ _. m;
        least = λ _ r a l c z w. let same : r ≡ s = omega arith in subst (λ (i : ℕ). less_entry (table_entry entries i) (table_entry entries s) ≡ false) (sym same) (less_entry_self (table_entry entries s));
        none_left = λ q. absurd (omega arith);
      }

  -- a state that is settled or has no entry, alone
  pub pick_not : (s : ℕ) → (get_or settled s false ≡ false → is_none (table_entry entries s) ≡ false → ⊥) → Picked entries settled count s (s + 1) count
  pick_not s f =
      record {
        range = omega arith;
        inside = λ h. absurd (omega arith);
        unsettled = λ h. absurd (omega arith);
        has_entry = λ h. absurd (omega arith);
        least = λ h. absurd (omega arith);
        none_left = λ e r a l c z w. let same : r ≡ s = omega arith in f (subst (λ (i : ℕ). get_or settled i false ≡ false) same z) (subst (λ (i : ℕ). is_none (table_entry entries i) ≡ false) same w);
      }

  -- states behind the last change nothing
  pub pick_to : (from limit more best : ℕ) → limit ≤ more → (limit < more → count ≤ limit) → Picked entries settled count from limit best → Picked entries settled count from more best
  pick_to from limit more best h k p =
      record {
        range = p.range;
        inside = λ l. ((p.inside l).0, omega (arith, (p.inside l).1));
        unsettled = p.unsettled;
        has_entry = p.has_entry;
        least = λ l s a b c z w. p.least l s a (below s b c) c z w;
        none_left = λ e s a b c z w. p.none_left e s a (below s b c) c z w;
      }
    where
      below : (s : ℕ) → s < more → s < count → s < limit
      below s b c = split_le more limit (λ m. omega arith) (λ m. omega (arith, k m))

  pub pick_block : (b best : ℕ) → Picked entries settled count 0 (64 * b + 64) best → Picked entries settled count 0 (64 * (b + 1)) best
  pick_block b best p = subst (λ (limit : ℕ). Picked entries settled count 0 limit best) (omega arith) p

  -- of two stretches
  module _ (from middle limit first second : ℕ) (h : from ≤ middle) (k : middle ≤ limit) (p : Picked entries settled count from middle first) (q : Picked entries settled count middle limit second) where
    pub join_first : second ≡ count → Picked entries settled count from limit first
    join_first e =
        record {
          range = p.range;
          inside = λ l. ((p.inside l).0, omega (arith, (p.inside l).1));
          unsettled = p.unsettled;
          has_entry = p.has_entry;
          least = λ l s a b c z w. split_le middle s (λ m. absurd (q.none_left e s m b c z w)) (λ m. p.least l s a m c z w);
          none_left = λ e' s a b c z w. split_le middle s (λ m. q.none_left e s m b c z w) (λ m. p.none_left e' s a m c z w);
        }

    pub join_second : first ≡ count → Picked entries settled count from limit second
    join_second e =
        record {
          range = q.range;
          inside = λ l. (omega (arith, (q.inside l).0), (q.inside l).1);
          unsettled = q.unsettled;
          has_entry = q.has_entry;
          least = λ l s a b c z w. split_le middle s (λ m. q.least l s m b c z w) (λ m. absurd (p.none_left e s a m c z w));
          none_left = λ e' s a b c z w. split_le middle s (λ m. q.none_left e' s m b c z w) (λ m. p.none_left e s a m c z w);
        }

    pub join_less : first < count → second < count → less_entry (table_entry entries second) (table_entry entries first) ≡ true → Picked entries settled count from limit second
    join_less f g e =
        record {
          range = q.range;
          inside = λ l. (omega (arith, (q.inside l).0), (q.inside l).1);
          unsettled = q.unsettled;
          has_entry = q.has_entry;
          least =
              λ l s a b c z w.
              split_le middle s
              (λ m. q.least l s m b c z w)
              (λ m. less_entry_below (table_entry entries second) (table_entry entries first) (table_entry entries s) e (p.least f s a m c z w));
          none_left = λ e'. absurd (omega arith);
        }

    pub join_keep : first < count → second < count → less_entry (table_entry entries second) (table_entry entries first) ≡ false → Picked entries settled count from limit first
    join_keep f g e =
        record {
          range = p.range;
          inside = λ l. ((p.inside l).0, omega (arith, (p.inside l).1));
          unsettled = p.unsettled;
          has_entry = p.has_entry;
          least =
              λ l s a b c z w.
              split_le middle s
              (λ m. less_entry_trans (table_entry entries first) (table_entry entries second) (table_entry entries s) e (q.least g s m b c z w))
              (λ m. p.least l s a m c z w);
          none_left = λ e'. absurd (omega arith);
        }

    pub join_lesser : first ≤ count → second ≤ count → Picked entries settled count from limit (lesser_of entries count first second)
    join_lesser f g =
        lesser_cases entries count first second (Picked entries settled count from limit)
        join_first
        (λ e d. join_second e)
        (λ e d l. join_less (omega (arith, e)) (omega (arith, d)) l)
        (λ e d l. join_keep (omega (arith, e)) (omega (arith, d)) l)
