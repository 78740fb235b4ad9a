-- Facts that are reached: the counts of what actions lack follow, cell by cell and row by row.
use Prim.Native.Nat.{ℕ, ◌+◌, ◌*◌, ◌%◌, ◌≤◌, ◌<◌}
use mathlib.Core.Path.{◌≡◌, refl, sym, ap, ◌∙◌}
use mathlib.Core.Bool.{Bool, true, false, not, cond, ◌&&◌, ◌||◌, and-false, and-true}
use mathlib.Core.List.{List}
use native.Mathlib.Omega.{arith}
use lib.Dec.{eqb}
use lib.ListN.{length, get_or, set}
use borrow.Author.Tests.{eqb-true, eqb-false, eq-eqb, ne_eqb, not-true}
use Rattle.files.specs.Below.{any_below, bit, count_below}
use Rattle.files.proofs.BelowLaws.{any_below_intro, bit_true, bit_false}
use Rattle.files.proofs.Logic.{clash, split, and_join, or_left}
use Rattle.files.proofs.Truth.{count_none}
use Rattle.marking.specs.Dense.{is_marked, SetWhere}
use Rattle.marking.proofs.SetWhere.{set_none, set_alike, set_place, set_both}
use Rattle.reduction.specs.ReachDense.{cell_fact, row_facts, asks_for, asked, lacking, Begun, RowLowered, Reaching, Reaches}
use Rattle.reduction.proofs.NamedHeld.{count_alike}
use Rattle.reduction.proofs.ReachRows.{count_zero, count_more, cell_place, row_none, row_next}

-- marks that are set
pub set_marked : (test : ℕ → Bool) (old new : List ℕ) → SetWhere test old new → (i : ℕ) → i < length old → is_marked new i ≡ test i || is_marked old i
set_marked test old new s i l = ap (λ (n : ℕ). eqb n 1) (s.entry i l) ∙ joined (test i) (get_or old i 0)
  where
    joined : (b : Bool) (n : ℕ) → eqb (cond b 1 n) 1 ≡ b || eqb n 1
    joined true n = refl
    joined false n = refl

-- the fact of a cell is marked already
pub known_already : (v cell : ℕ) (facts : List ℕ) → (cell ≡ 255 → ⊥) → get_or facts (32 * v + cell % 32) 0 ≡ 1 → SetWhere (cell_fact v cell) facts facts
known_already v cell facts there e =
    record {
      same = refl;
      entry =
          λ i l.
          split (eqb i (32 * v + cell % 32))
          (λ q.
          let is : i ≡ 32 * v + cell % 32 = eqb-true i (32 * v + cell % 32) q in
          ap (λ (n : ℕ). get_or facts n 0) is ∙ e ∙ sym (ap (λ (b : Bool). cond b 1 (get_or facts i 0)) (cell_place v cell i there ∙ q)))
          (λ q. sym (ap (λ (b : Bool). cond b 1 (get_or facts i 0)) (cell_place v cell i there ∙ q)));
    }

-- a fact that an action asks for is not lacking any more
module _ (rows facts after : List ℕ) (a place : ℕ) (known : place < 2048) (off : is_marked facts place ≡ false) (on : is_marked after place ≡ true)
    (others : (i : ℕ) → i < 2048 → (i ≡ place → ⊥) → is_marked after i ≡ is_marked facts i) where
  abbrev lacks : List ℕ → ℕ → Bool
  lacks f i = asks_for rows a i && not (is_marked f i)

  same_others : (i : ℕ) → i < 2048 → (i ≡ place → ⊥) → lacks facts i ≡ lacks after i
  same_others i l apart = ap (λ (b : Bool). asks_for rows a i && not b) (sym (others i l apart))

  gone : lacks after place ≡ false
  gone = ap (λ (b : Bool). asks_for rows a place && not b) on ∙ and-false (asks_for rows a place)

  was : lacks facts place ≡ asks_for rows a place
  was = ap (λ (b : Bool). asks_for rows a place && not b) off ∙ and-true (asks_for rows a place)

  one_less : asks_for rows a place ≡ true → lacking rows facts a ≡ lacking rows after a + 1
  unfolding lacking
  one_less e = count_more 2048 (lacks after) (lacks facts) place known gone (was ∙ e) same_others

  as_many : asks_for rows a place ≡ false → lacking rows facts a ≡ lacking rows after a
  unfolding lacking
  as_many e =
      count_alike 2048 (lacks facts) (lacks after)
      (λ i l. split (eqb i place) (λ q. let is : i ≡ place = eqb-true i place q in rw is (was ∙ e ∙ sym gone)) (λ q. same_others i l (eqb-false i place q)))

  pub lacking_less : lacking rows after a + bit (asks_for rows a place) ≡ lacking rows facts a
  lacking_less =
      split (asks_for rows a place)
      (λ e. omega (arith, bit_true (asks_for rows a place) e, one_less e))
      (λ e. omega (arith, bit_false (asks_for rows a place) e, as_many e))

-- an action that lacks nothing has all that it asks for, and the other way round
none_lacking : (n : ℕ) (f : ℕ → Bool) → count_below n f ≡ 0 → (i : ℕ) → i < n → f i ≡ false
none_lacking n f e i l =
    split (f i)
    (λ q. clash (any_below_intro n f i l q) (not-true (any_below n f) (sym (count_none n f) ∙ eq-eqb (count_below n f) 0 e)))
    (λ q. q)

pub lacks_nothing : (rows facts : List ℕ) (a : ℕ) → lacking rows facts a ≡ 0 → (i : ℕ) → i < 2048 → asks_for rows a i ≡ true → is_marked facts i ≡ true
unfolding lacking
lacks_nothing rows facts a e i l q =
    split (is_marked facts i)
    (λ m. m)
    (λ m. clash (and_join q (ap not m)) (none_lacking 2048 (λ j. asks_for rows a j && not (is_marked facts j)) e i l))

pub has_all : (rows facts : List ℕ) (a : ℕ) → ((i : ℕ) → i < 2048 → asks_for rows a i ≡ true → is_marked facts i ≡ true) → lacking rows facts a ≡ 0
unfolding lacking
has_all rows facts a h =
    count_zero 2048 (λ i. asks_for rows a i && not (is_marked facts i))
    (λ i l.
    split (asks_for rows a i)
    (λ q. ap (λ (b : Bool). asks_for rows a i && not b) (h i l q) ∙ and-false (asks_for rows a i))
    (λ q. ap (λ (b : Bool). b && not (is_marked facts i)) q))

-- at the beginning an action lacks all that it asks for
all_lacking : (rows facts : List ℕ) (a : ℕ) → ((i : ℕ) → get_or facts i 0 ≡ 0) → asked rows a ≡ lacking rows facts a
unfolding asked lacking
all_lacking rows facts a zeros =
    count_alike 2048 (asks_for rows a) (λ i. asks_for rows a i && not (is_marked facts i))
    (λ i l. sym (ap (λ (n : ℕ). asks_for rows a i && not (eqb n 1)) (zeros i) ∙ and-true (asks_for rows a i)))

pub begun_reaching : (conditions : List ℕ) (variables actions : ℕ) (rows facts counts order : List ℕ) (found : ℕ) → Begun conditions variables actions rows counts order found
    → actions ≤ 512 → ((i : ℕ) → get_or facts i 0 ≡ 0) → 2048 ≤ length facts → Reaching rows actions facts counts order found
begun_reaching conditions variables actions rows facts counts order found b few zeros facts_room =
    record {
      few = few;
      facts_room = facts_room;
      counts_room = b.counts_room;
      order_room = b.order_room;
      counted = λ a l. b.count a l ∙ all_lacking rows facts a zeros;
      listing = b.listing;
    }

module _ (rows : List ℕ) (actions : ℕ) where
  -- nothing is reached anew
  module _ (test : ℕ → Bool) (facts counts order : List ℕ) (found : ℕ) (was : Reaching rows actions facts counts order found) where
    pub reaches_nothing : SetWhere test facts facts → Reaches test rows actions facts order found facts counts order found
    reaches_nothing s = record { state = was; marks = s; earlier = λ i l. refl; more = omega arith }

  -- the fact of a cell
  module _ (v cell : ℕ) (known : v < 64) (there : cell ≡ 255 → ⊥) (facts counts order : List ℕ) (found : ℕ) (was : Reaching rows actions facts counts order found)
      (new : get_or facts (32 * v + cell % 32) 0 ≡ 1 → ⊥) where
    abbrev place : ℕ
    place = 32 * v + cell % 32

    abbrev after : List ℕ
    after = set facts place 1

    inside : place < 2048
    inside = omega arith

    pub cell_set : SetWhere (cell_fact v cell) facts after
    cell_set =
        set_alike (λ i. eqb i place && true) (cell_fact v cell) facts after (λ i. and-true (eqb i place) ∙ sym (cell_place v cell i there))
        (set_place true facts place 1 (omega (arith, inside, was.facts_room)) refl)

    less : (a : ℕ) → lacking rows after a + bit (asks_for rows a place) ≡ lacking rows facts a
    less a =
        let off : is_marked facts place ≡ false = ne_eqb (get_or facts place 0) 1 new in
        let entry : (i : ℕ) → i < 2048 → is_marked after i ≡ cell_fact v cell i || is_marked facts i = λ i l. set_marked (cell_fact v cell) facts after cell_set i (omega (arith, was.facts_room)) in
        lacking_less rows facts after a place inside off
        (entry place inside ∙ or_left (is_marked facts place) (cell_place v cell place there ∙ eq-eqb place place refl))
        (λ i l apart. entry i l ∙ ap (λ (b : Bool). b || is_marked facts i) (cell_place v cell i there ∙ ne_eqb i place apart))

    -- an action that asks for it has a count
    pub some_lacking : (a : ℕ) → a < actions → asks_for rows a place ≡ true → 0 < get_or counts a 0
    some_lacking a l e = omega (arith, was.counted a l, less a, bit_true (asks_for rows a place) e)

    pub reaches_cell : (counts₁ order₁ : List ℕ) (r : ℕ) → RowLowered counts order counts₁ order₁ (λ a. asks_for rows a place) actions found r
        → length after ≡ length facts
        → Reaches (cell_fact v cell) rows actions facts order found after counts₁ order₁ r
    reaches_cell counts₁ order₁ r low facts_same =
        record {
          state =
              record {
                few = was.few;
                facts_room = omega (arith, was.facts_room, facts_same);
                counts_room = low.counts_room;
                order_room = low.order_room;
                counted = λ a l. omega (arith, low.less a l, was.counted a l, less a);
                listing = low.listing;
              };
          marks = cell_set;
          earlier = low.earlier;
          more = low.more;
        }

  -- the facts of a row, cell by cell
  module _ (row : List ℕ) (base : ℕ) where
    pub row_begins : (facts counts order : List ℕ) (found : ℕ) → Reaching rows actions facts counts order found → Reaches (row_facts row base 0) rows actions facts order found facts counts order found
    row_begins facts counts order found was = reaches_nothing (row_facts row base 0) facts counts order found was (set_none (row_facts row base 0) facts (row_none row base))

    pub row_goes_on : (v : ℕ) (facts₀ order₀ : List ℕ) (found : ℕ) (facts counts order : List ℕ) (count : ℕ) (facts₁ counts₁ order₁ : List ℕ) (r : ℕ)
        → Reaches (row_facts row base v) rows actions facts₀ order₀ found facts counts order count
        → Reaches (cell_fact v (get_or row (base + v) 0)) rows actions facts order count facts₁ counts₁ order₁ r
        → Reaches (row_facts row base (v + 1)) rows actions facts₀ order₀ found facts₁ counts₁ order₁ r
    row_goes_on v facts₀ order₀ found facts counts order count facts₁ counts₁ order₁ r to new =
        record {
          state = new.state;
          marks =
              set_alike (λ i. cell_fact v (get_or row (base + v) 0) i || row_facts row base v i) (row_facts row base (v + 1)) facts₀ facts₁
              (λ i. sym (row_next row base v i))
              (set_both (row_facts row base v) (cell_fact v (get_or row (base + v) 0)) facts₀ facts facts₁ to.marks new.marks);
          earlier = λ i l. new.earlier i (omega (arith, to.more)) ∙ to.earlier i l;
          more = omega (arith, to.more, new.more);
        }
