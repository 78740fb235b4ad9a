-- The list of the actions whose count is 0: with one action more, with a count lowered, and with the counts of a set of
-- actions lowered.
use Prim.Native.Nat.{ℕ, ◌+◌, ◌≤◌, ◌<◌}
use mathlib.Core.Path.{◌≡◌, refl, sym, ap, ◌∙◌}
use mathlib.Core.Bool.{Bool, true, false, cond}
use mathlib.Core.List.{List}
use native.Mathlib.Omega.{arith}
use native.Mathlib.Numerals.{add-one}
use lib.Dec.{eqb}
use lib.ListN.{length, length-set, get_or, set}
use lib.Seq.{get_or-set_same, get_or-set_other}
use borrow.Author.Tests.{eqb-true, eqb-false, eq-eqb, ne_eqb}
use Rattle.bits.specs.Sets.{FirstFrom}
use Rattle.files.specs.Below.{bit, count_below}
use Rattle.files.proofs.BelowLaws.{bit_true, bit_false}
use Rattle.files.proofs.Choosing.{pushed_length}
use Rattle.files.proofs.CountOrder.{count_most}
use Rattle.files.proofs.Logic.{split, split_le}
use Rattle.reduction.specs.Clauses.{Pushed}
use Rattle.reduction.specs.ReachDense.{Listing, Lowered, RowLowered}
use Rattle.reduction.proofs.NamedHeld.{count_alike}
use Rattle.reduction.proofs.ReachRows.{count_more}

-- a count of 0
abbrev is_none : List ℕ → ℕ → Bool
is_none counts a = eqb (get_or counts a 0) 0

-- entries of a list to which a number was pushed
module _ (order after : List ℕ) (found a : ℕ) (test : Bool) (r : ℕ) (p : Pushed order after found a test r) where
  pub pushed_earlier : (i : ℕ) → i < found → get_or after i 0 ≡ get_or order i 0
  pushed_earlier i l =
      ap (λ (l : List ℕ). get_or l i 0) p.numbers
      ∙ split test
      (λ e. ap (λ (b : Bool). get_or (cond b (set order found a) order) i 0) e ∙ get_or-set_other order found i a 0 (omega arith))
      (λ e. ap (λ (b : Bool). get_or (cond b (set order found a) order) i 0) e)

  pushed_last : found < length order → test ≡ true → get_or after found 0 ≡ a
  pushed_last h e =
      ap (λ (l : List ℕ). get_or l found 0) p.numbers
      ∙ ap (λ (b : Bool). get_or (cond b (set order found a) order) found 0) e
      ∙ get_or-set_same order found a 0 h

  -- a place is an earlier one, or the new last one
  pushed_place {ℓ} : {X : Type ℓ} (i : ℕ) → i < r → (i < found → X) → (i ≡ found → test ≡ true → X) → X
  pushed_place i l f g =
      split_le found i
      (λ past.
      split test
      (λ e. g (omega (arith, p.counted, bit_true test e)) e)
      (λ e. absurd (omega (arith, p.counted, bit_false test e))))
      (λ below. f below)

-- the count of one action is another
module _ (counts order counts₁ order₁ : List ℕ) (bound bound₁ found a value r : ℕ) (was : Listing counts order bound found)
    (here : get_or counts₁ a 0 ≡ value) (others : (b : ℕ) → (b ≡ a → ⊥) → get_or counts₁ b 0 ≡ get_or counts b 0)
    (p : Pushed order order₁ found a (eqb value 0) r) (room : found < length order)
    (known : a < bound₁) (wider : bound ≤ bound₁) (rest : (b : ℕ) → b < bound₁ → (b ≡ a → ⊥) → b < bound)
    (new : (b : ℕ) → b < bound → get_or counts b 0 ≡ 0 → b ≡ a → ⊥)
    (more : count_below bound₁ (is_none counts₁) ≡ count_below bound (is_none counts) + bit (eqb value 0)) where
  listing_with : Listing counts₁ order₁ bound₁ r
  listing_with =
      record {
        known =
            λ i l.
            pushed_place order order₁ found a (eqb value 0) r p i l
            (λ before. omega (arith, pushed_earlier order order₁ found a (eqb value 0) r p i before, was.known i before))
            (λ q e. rw q (omega (arith, pushed_last order order₁ found a (eqb value 0) r p room e)));
        none =
            λ i l.
            pushed_place order order₁ found a (eqb value 0) r p i l
            (λ before.
            ap (λ (n : ℕ). get_or counts₁ n 0) (pushed_earlier order order₁ found a (eqb value 0) r p i before)
            ∙ others (get_or order i 0) (new (get_or order i 0) (was.known i before) (was.none i before))
            ∙ was.none i before)
            (λ q e.
            ap (λ (n : ℕ). get_or counts₁ (get_or order₁ n 0) 0) q
            ∙ ap (λ (n : ℕ). get_or counts₁ n 0) (pushed_last order order₁ found a (eqb value 0) r p room e)
            ∙ here
            ∙ eqb-true value 0 e);
        listed =
            λ b l z.
            split (eqb b a)
            (λ e.
            let is : b ≡ a = eqb-true b a e in
            let zero : eqb value 0 ≡ true = eq-eqb value 0 (sym here ∙ ap (λ (n : ℕ). get_or counts₁ n 0) (sym is) ∙ z) in
            (found, omega (arith, p.counted, bit_true (eqb value 0) zero), pushed_last order order₁ found a (eqb value 0) r p room zero ∙ sym is))
            (λ e.
            let apart = eqb-false b a e in
            let k = was.listed b (rest b l apart) (sym (others b apart) ∙ z) in
            (k.0, omega (arith, p.counted, k.1), pushed_earlier order order₁ found a (eqb value 0) r p k.0 k.1 ∙ k.2));
        count = p.counted ∙ ap (λ (n : ℕ). n + bit (eqb value 0)) was.count ∙ sym more;
      }

pub listing_begins : (counts order : List ℕ) → Listing counts order 0 0
listing_begins counts order =
    record {
      known = λ i l. absurd (omega arith);
      none = λ i l. absurd (omega arith);
      listed = λ a l. absurd (omega arith);
      count = refl;
    }

-- one action more
pub listing_more : (counts order order₁ : List ℕ) (found a value r : ℕ) → Listing counts order a found → a < length counts → found < length order
    → Pushed order order₁ found a (eqb value 0) r → Listing (set counts a value) order₁ (a + 1) r
listing_more counts order order₁ found a value r was inside room p =
    listing_with counts order (set counts a value) order₁ a (a + 1) found a value r was here others p room (omega arith) (omega arith)
    (λ b l apart. omega arith)
    (λ b l z. λ q. omega arith)
    (ap (λ (n : ℕ). count_below n (is_none (set counts a value))) (add-one a)
    ∙ omega (arith, ap (λ (n : ℕ). bit (eqb n 0)) here, count_alike a (is_none (set counts a value)) (is_none counts) (λ b l. ap (λ (n : ℕ). eqb n 0) (others b (omega arith)))))
  where
    here : get_or (set counts a value) a 0 ≡ value
    here = get_or-set_same counts a value 0 inside

    others : (b : ℕ) → (b ≡ a → ⊥) → get_or (set counts a value) b 0 ≡ get_or counts b 0
    others b apart = get_or-set_other counts a b value 0 apart

-- an action with a count is not listed, so there is room
pub listing_room : (counts order : List ℕ) (actions found a : ℕ) → Listing counts order actions found → a < actions → 0 < get_or counts a 0 → found < actions
listing_room counts order actions found a was l some =
    let one : count_below actions (λ b. is_none counts b) + 1 ≤ actions = fewer actions a l (is_none counts) (ne_eqb (get_or counts a 0) 0 (λ q. omega arith)) in
    omega (arith, was.count, one)
  where
    fewer : (n b : ℕ) → b < n → (f : ℕ → Bool) → f b ≡ false → count_below n f + 1 ≤ n
    fewer n b h f e =
        let g : ℕ → Bool = λ i. cond (eqb i b) true (f i) in
        let more : count_below n g ≡ count_below n f + 1 = count_more n f g b h e (rw (eq-eqb b b refl) refl) (λ i k apart. rw (ne_eqb i b apart) refl) in
        omega (arith, more, count_most n g)

-- a count lowered
module _ (counts order counts₁ order₁ : List ℕ) (actions found a r : ℕ) (was : Listing counts order actions found) (l : a < actions)
    (inside : a < length counts) (room : found < length order) (low : Lowered counts order counts₁ order₁ found a r) where
  lowered_here : get_or counts₁ a 0 ≡ low.left
  lowered_here = ap (λ (c : List ℕ). get_or c a 0) low.lowered ∙ get_or-set_same counts a low.left 0 inside

  pub lowered_others : (b : ℕ) → (b ≡ a → ⊥) → get_or counts₁ b 0 ≡ get_or counts b 0
  lowered_others b apart = ap (λ (c : List ℕ). get_or c b 0) low.lowered ∙ get_or-set_other counts a b low.left 0 apart

  pub lowered_less : get_or counts₁ a 0 + 1 ≡ get_or counts a 0
  lowered_less = omega (arith, lowered_here, low.less)

  off : is_none counts a ≡ false
  off = ne_eqb (get_or counts a 0) 0 (λ q. omega (arith, low.less))

  none_now : is_none counts₁ a ≡ eqb low.left 0
  none_now = ap (λ (n : ℕ). eqb n 0) lowered_here

  same : (b : ℕ) → (b ≡ a → ⊥) → is_none counts₁ b ≡ is_none counts b
  same b apart = ap (λ (n : ℕ). eqb n 0) (lowered_others b apart)

  counted_now : count_below actions (is_none counts₁) ≡ count_below actions (is_none counts) + bit (eqb low.left 0)
  counted_now =
      split (eqb low.left 0)
      (λ e. omega (arith, count_more actions (is_none counts) (is_none counts₁) a l off (none_now ∙ e) (λ b k. same b), bit_true (eqb low.left 0) e))
      (λ e.
      omega (
        arith,
        bit_false (eqb low.left 0) e,
        count_alike actions (is_none counts₁) (is_none counts)
            (λ b k. split (eqb b a) (λ q. let is : b ≡ a = eqb-true b a q in rw is (none_now ∙ e ∙ sym off)) (λ q. same b (eqb-false b a q))),
      ))

  pub listing_lowered : Listing counts₁ order₁ actions r
  listing_lowered =
      listing_with counts order counts₁ order₁ actions actions found a low.left r was lowered_here lowered_others low.pushed room l (omega arith)
      (λ b k apart. k)
      (λ b k z. λ q. omega (arith, low.less, ap (λ (n : ℕ). get_or counts n 0) q))
      counted_now

-- the counts of a set of actions lowered, of those before `from`
pub record LoweredTo (counts₀ order₀ : List ℕ) (test : ℕ → Bool) (actions found : ℕ) (counts order : List ℕ) (count from : ℕ) : Type 0 where
  pub before : (b : ℕ) → b < from → get_or counts b 0 + bit (test b) ≡ get_or counts₀ b 0
  pub after : (b : ℕ) → from ≤ b → get_or counts b 0 ≡ get_or counts₀ b 0
  pub listing : Listing counts order actions count
  pub earlier : (i : ℕ) → i < found → get_or order i 0 ≡ get_or order₀ i 0
  pub more : found ≤ count
  pub counts_room : 512 ≤ length counts
  pub order_room : 512 ≤ length order

module _ (counts₀ order₀ : List ℕ) (test : ℕ → Bool) (actions found : ℕ) where
  pub lowering_begins : 512 ≤ length counts₀ → 512 ≤ length order₀ → Listing counts₀ order₀ actions found → LoweredTo counts₀ order₀ test actions found counts₀ order₀ found 0
  lowering_begins counts_room order_room was =
      record {
        before = λ b l. absurd (omega arith);
        after = λ b l. refl;
        listing = was;
        earlier = λ i l. refl;
        more = omega arith;
        counts_room = counts_room;
        order_room = order_room;
      }

  module _ (counts order counts₁ order₁ : List ℕ) (count from a r : ℕ) (to : LoweredTo counts₀ order₀ test actions found counts order count from)
      (f : FirstFrom test actions from a) (l : a < actions) (few : actions ≤ 512) (some : 0 < get_or counts a 0) (low : Lowered counts order counts₁ order₁ count a r) where
    inside : a < length counts
    inside = omega (arith, to.counts_room)

    room : count < length order
    room = omega (arith, listing_room counts order actions count a to.listing l some, to.order_room)

    others : (b : ℕ) → (b ≡ a → ⊥) → get_or counts₁ b 0 ≡ get_or counts b 0
    others = lowered_others counts order counts₁ order₁ actions count a r to.listing l inside room low

    pub lowering_next : LoweredTo counts₀ order₀ test actions found counts₁ order₁ r (a + 1)
    lowering_next =
        record {
          before =
              λ b k.
              split_le a b
              (λ here.
              let is : b ≡ a = omega arith in
              rw is
              (omega (
                arith,
                lowered_less counts order counts₁ order₁ actions count a r to.listing l inside room low,
                bit_true (test a) (f.there l),
                to.after a f.first,
              )))
              (λ below.
              split_le from b
              (λ past. omega (arith, others b (λ q. omega arith), to.after b past, bit_false (test b) (f.skipped b past below)))
              (λ early. omega (arith, others b (λ q. omega arith), to.before b early)));
          after = λ b k. others b (λ q. omega arith) ∙ to.after b (omega (arith, f.first));
          listing = listing_lowered counts order counts₁ order₁ actions count a r to.listing l inside room low;
          earlier = λ i k. pushed_earlier order order₁ count a (eqb low.left 0) r low.pushed i (omega (arith, to.more)) ∙ to.earlier i k;
          more = omega (arith, to.more, low.pushed.counted);
          counts_room = omega (arith, to.counts_room, ap length low.lowered, length-set counts a low.left);
          order_room = omega (arith, to.order_room, pushed_length (eqb low.left 0) order order₁ count a low.pushed.numbers);
        }

  pub lowering_ends : (counts order : List ℕ) (count from : ℕ) → LoweredTo counts₀ order₀ test actions found counts order count from → FirstFrom test actions from actions
      → RowLowered counts₀ order₀ counts order test actions found count
  lowering_ends counts order count from to f =
      record {
        less =
            λ b l.
            split_le from b
            (λ past. omega (arith, to.after b past, bit_false (test b) (f.skipped b past l)))
            (λ early. to.before b early);
        listing = to.listing;
        earlier = to.earlier;
        more = to.more;
        counts_room = to.counts_room;
        order_room = to.order_room;
      }
