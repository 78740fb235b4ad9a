-- The effects of the listed actions, followed one after another: nothing but what follows is reached.
use Prim.Native.Nat.{ℕ, ◌+◌, ◌*◌, ◌≤◌, ◌<◌}
use mathlib.Core.Path.{◌≡◌, sym, ap, ◌∙◌}
use mathlib.Core.Bool.{Bool, true, ◌||◌}
use mathlib.Core.List.{List}
use mathlib.Core.Logic.{⊎_elim}
use native.Mathlib.Omega.{arith}
use lib.Dec.{eqb}
use lib.ListN.{get_or}
use Rattle.files.proofs.CountOrder.{count_most}
use Rattle.files.proofs.Logic.{split_le, or_split, or_left, or_right}
use Rattle.marking.specs.Dense.{is_marked}
use Rattle.reduction.specs.ReachDense.{row_facts, Listing, Reaching, Reaches, FactsClosed, FactsIn, Followed}
use Rattle.reduction.proofs.ReachStates.{set_marked, lacks_nothing}

-- at most as many actions are listed as there are
listing_few : (counts order : List ℕ) (actions found : ℕ) → Listing counts order actions found → found ≤ actions
listing_few counts order actions found was = omega (arith, was.count, count_most actions (λ a. eqb (get_or counts a 0) 0))

-- the effects of the listed actions before `next` are reached
pub record FollowedTo (rows effects : List ℕ) (variables actions : ℕ) (facts₀ facts counts order : List ℕ) (count next : ℕ) : Type 0 where
  pub state : Reaching rows actions facts counts order count
  pub fewer : count ≤ actions
  pub at_most : next ≤ count
  pub done : (k : ℕ) → k < next → (i : ℕ) → i < 2048 → row_facts effects (64 * get_or order k 0) variables i ≡ true → is_marked facts i ≡ true
  pub kept : FactsIn facts₀ (is_marked facts)
  pub least : (F : ℕ → Bool) → FactsClosed rows effects variables actions F → FactsIn facts₀ F → FactsIn facts F

module _ (rows effects : List ℕ) (variables actions : ℕ) (facts₀ : List ℕ) where
  pub following_begins : (counts₀ order₀ : List ℕ) (found : ℕ) → Reaching rows actions facts₀ counts₀ order₀ found → FollowedTo rows effects variables actions facts₀ facts₀ counts₀ order₀ found 0
  following_begins counts₀ order₀ found was =
      record {
        state = was;
        fewer = listing_few counts₀ order₀ actions found was.listing;
        at_most = omega arith;
        done = λ k l. absurd (omega arith);
        kept = λ i l m. m;
        least = λ F closed given. given;
      }

  module _ (facts counts order : List ℕ) (count next : ℕ) (to : FollowedTo rows effects variables actions facts₀ facts counts order count next) where
    -- the next action
    pub next_known : next < count → get_or order next 0 < actions
    next_known l = to.state.listing.known next l

    module _ (facts₁ counts₁ order₁ : List ℕ) (r : ℕ) (l : next < count)
        (new : Reaches (row_facts effects (64 * get_or order next 0) variables) rows actions facts order count facts₁ counts₁ order₁ r) where
      abbrev a : ℕ
      a = get_or order next 0

      marked_now : (i : ℕ) → i < 2048 → is_marked facts₁ i ≡ row_facts effects (64 * a) variables i || is_marked facts i
      marked_now i k = set_marked (row_facts effects (64 * a) variables) facts facts₁ new.marks i (omega (arith, to.state.facts_room))

      stays : (i : ℕ) → i < 2048 → is_marked facts i ≡ true → is_marked facts₁ i ≡ true
      stays i k m = marked_now i k ∙ or_right (row_facts effects (64 * a) variables i) m

      pub following_next : FollowedTo rows effects variables actions facts₀ facts₁ counts₁ order₁ r (next + 1)
      following_next =
          record {
            state = new.state;
            fewer = listing_few counts₁ order₁ actions r new.state.listing;
            at_most = omega (arith, new.more);
            done =
                λ k m i h e.
                let before : get_or order₁ k 0 ≡ get_or order k 0 = new.earlier k (omega arith) in
                let then : row_facts effects (64 * get_or order k 0) variables i ≡ true = ap (λ (n : ℕ). row_facts effects (64 * n) variables i) (sym before) ∙ e in
                split_le next k
                (λ late.
                let is : k ≡ next = omega arith in
                marked_now i h ∙ or_left (is_marked facts i) (ap (λ (n : ℕ). row_facts effects (64 * get_or order n 0) variables i) (sym is) ∙ then))
                (λ early. stays i h (to.done k early i h then));
            kept = λ i h m. stays i h (to.kept i h m);
            least =
                λ F closed given i h m.
                let before = to.least F closed given in
                ⊎_elim
                (λ e.
                closed a (next_known l)
                (λ j k q. before j k (lacks_nothing rows facts a (sym (to.state.counted a (next_known l)) ∙ to.state.listing.none next l) j k q))
                i e)
                (λ e. before i h e)
                (or_split (row_facts effects (64 * a) variables i) (is_marked facts i) (sym (marked_now i h) ∙ m));
          }

    pub following_ends : count ≤ next → Followed rows effects variables actions facts₀ facts counts
    following_ends h =
        record {
          counted = to.state.counted;
          follows =
              λ a l z i k e.
              let place = to.state.listing.listed a l z in
              to.done place.0 (omega (arith, place.1)) i k (ap (λ (n : ℕ). row_facts effects (64 * n) variables i) place.2 ∙ e);
          kept = to.kept;
          least = to.least;
        }
