-- The sets of conditions and the counts to begin with, filled an action at a time.
use Prim.Native.Nat.{ℕ, ◌+◌, ◌*◌, ◌≤◌, ◌<◌}
use mathlib.Core.Path.{◌≡◌, refl, sym, ap, ◌∙◌}
use mathlib.Core.Bool.{Bool, false, ◌&&◌, ◌||◌, or-false}
use mathlib.Core.List.{List}
use native.Mathlib.Omega.{arith}
use lib.Dec.{eqb}
use lib.ListN.{length, length-set, get_or, set}
use borrow.Author.Tests.{eq-eqb, ne_eqb}
use Rattle.bits.proofs.BitLaws.{in_empty_words}
use Rattle.files.proofs.Choosing.{pushed_length}
use Rattle.files.proofs.CountOrder.{count_most}
use Rattle.files.proofs.Filling.{filled_before}
use Rattle.files.proofs.Logic.{split_le}
use Rattle.reduction.specs.Clauses.{Pushed}
use Rattle.reduction.specs.ReachDense.{row_facts, asks_for, asked, AskedRow, Listing, Begun}
use Rattle.reduction.proofs.NamedHeld.{count_alike}
use Rattle.reduction.proofs.ReachLists.{listing_begins, listing_more}

-- the actions before a have theirs
pub record BegunTo (conditions : List ℕ) (variables : ℕ) (rows counts order : List ℕ) (found a : ℕ) : Type 0 where
  pub asks : (b i : ℕ) → b < a → asks_for rows b i ≡ row_facts conditions (64 * b) variables i
  pub empty : (b i : ℕ) → a ≤ b → b < 512 → asks_for rows b i ≡ false
  pub count : (b : ℕ) → b < a → get_or counts b 0 ≡ asked rows b
  pub listing : Listing counts order a found
  pub counts_room : 512 ≤ length counts
  pub order_room : 512 ≤ length order

module _ (conditions : List ℕ) (variables : ℕ) where
  pub begun_begins : (rows counts order : List ℕ) (found : ℕ) → ((i : ℕ) → get_or rows i 0 ≡ 0) → found ≡ 0 → 512 ≤ length counts → 512 ≤ length order → BegunTo conditions variables rows counts order found 0
  begun_begins rows counts order found zero e counts_room order_room =
      record {
        asks = λ b i l. absurd (omega arith);
        empty = λ b i _ _. in_empty_words rows (8 * i) b zero;
        count = λ b l. absurd (omega arith);
        listing = rw e (listing_begins counts order);
        counts_room = counts_room;
        order_room = order_room;
      }

  module _ (rows counts order : List ℕ) (found a : ℕ) (to : BegunTo conditions variables rows counts order found a) where
    -- at most as many are listed as there were actions
    pub begun_few : found ≤ a
    begun_few = omega (arith, to.listing.count, count_most a (λ b. eqb (get_or counts b 0) 0))

    module _ (rows₁ order₁ : List ℕ) (value r : ℕ) (few : a < 512) (new : AskedRow rows rows₁ conditions variables a value)
        (p : Pushed order order₁ found a (eqb value 0) r) where
      here : (i : ℕ) → asks_for rows₁ a i ≡ row_facts conditions (64 * a) variables i
      here i = new.asking i a few ∙ rw (to.empty a i (omega arith) few, eq-eqb a a refl) refl

      others : (b i : ℕ) → b < 512 → (b ≡ a → ⊥) → asks_for rows₁ b i ≡ asks_for rows b i
      others b i l apart =
          new.asking i b l
          ∙ ap (λ (t : Bool). asks_for rows b i || (t && row_facts conditions (64 * a) variables i)) (ne_eqb b a apart)
          ∙ or-false (asks_for rows b i)

      asked_as_before : (b : ℕ) → b < 512 → (b ≡ a → ⊥) → asked rows₁ b ≡ asked rows b
      unfolding asked
      asked_as_before b l apart = count_alike 2048 (asks_for rows₁ b) (asks_for rows b) (λ i _. others b i l apart)

      pub begun_next : BegunTo conditions variables rows₁ (set counts a value) order₁ r (a + 1)
      begun_next =
          record {
            asks =
                λ b i l.
                split_le a b
                (λ m. let is : b ≡ a = omega arith in rw is (here i))
                (λ m. others b i (omega arith) (λ q. omega arith) ∙ to.asks b i m);
            empty = λ b i l k. others b i k (λ q. omega arith) ∙ to.empty b i (omega arith) k;
            count =
                filled_before counts a value (λ b n. n ≡ asked rows₁ b) (omega (arith, to.counts_room))
                (λ b l. to.count b l ∙ sym (asked_as_before b (omega arith) (λ q. omega arith)))
                new.count;
            listing = listing_more counts order order₁ found a value r to.listing (omega (arith, to.counts_room)) (omega (arith, begun_few, to.order_room)) p;
            counts_room = omega (arith, to.counts_room, length-set counts a value);
            order_room = omega (arith, to.order_room, pushed_length (eqb value 0) order order₁ found a p.numbers);
          }

  pub begun_ends : (rows counts order : List ℕ) (found a actions : ℕ) → BegunTo conditions variables rows counts order found a → a ≡ actions → Begun conditions variables actions rows counts order found
  begun_ends rows counts order found a actions to e =
      rw (← e)
      record { asks = λ b i l. to.asks b i l; count = to.count; listing = to.listing; counts_room = to.counts_room; order_room = to.order_room }
