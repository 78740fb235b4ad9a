-- Blocks of 64 states: the least state of each block where an entry is lowered, and where a state is settled.
use Prim.Native.Nat.{ℕ, ◌+◌, ◌*◌, ◌/◌, ◌≤◌, ◌<◌}
use mathlib.Core.Path.{◌≡◌, refl, sym, ap, subst, ◌∙◌}
use mathlib.Core.Bool.{Bool, true, false, cond}
use mathlib.Core.List.{List}
use native.Mathlib.Omega.{arith}
use lib.Dec.{eqb}
use lib.ListN.{length, get_or, set, length-set}
use lib.Seq.{get_or-set_same, get_or-set_other}
use borrow.Author.Tests.{eqb-true, eqb-false, eq-eqb, ne_eqb}
use Rattle.files.proofs.Logic.{clash, split}
use Rattle.distances.specs.Entries.{no_entry, is_none, less_entry, table_entry}
use Rattle.distances.specs.Settling.{Picked, Known, lesser_of}
use Rattle.distances.specs.Selecting.{Selecting}
use Rattle.distances.specs.declared.Entry.{Entry}
use Rattle.distances.specs.declared.selection.Selection.{Selection}
use Rattle.distances.proofs.EntryLaws.{Put, entry_put, none_is, less_entry_self, less_entry_below}
use Rattle.distances.proofs.Picking.{lesser_cases}

-- the block of a state
pub block_few : (s : ℕ) → s < 4096 → s / 64 < 64
block_few s h = omega (arith, h)

block_is : (b s : ℕ) → 64 * b ≤ s → s < 64 * b + 64 → s / 64 ≡ b
block_is b s h k = omega (arith, h, k)

pub begins : (x count : ℕ) → x < count → 64 * (x / 64) < count
begins x count h = omega (arith, h)

-- no state has an entry
pub known_cleared : (entries : List Entry) (settled : List Bool) (count : ℕ) (least : List ℕ) → ((s : ℕ) → s < count → table_entry entries s ≡ no_entry) → ((b : ℕ) → 64 * b < count → get_or least b 0 ≡ count)
    → Known entries settled count least
known_cleared entries settled count least none none_left b h =
    let is : get_or least b 0 ≡ count = none_left b h in
    record {
      range = omega (arith, is);
      inside = λ l. absurd (omega (arith, is));
      unsettled = λ l. absurd (omega (arith, is));
      has_entry = λ l. absurd (omega (arith, is));
      least = λ l. absurd (omega (arith, is));
      none_left = λ e s a l c z w. clash (none_is (table_entry entries s) (none s c)) w;
    }

module _ (entries : List Entry) (settled : List Bool) (entries' : List Entry) (settled' : List Bool) (count from limit best : ℕ)
    (alike : (s : ℕ) → from ≤ s → s < limit → table_entry entries' s ≡ table_entry entries s) (open_alike : (s : ℕ) → from ≤ s → s < limit → get_or settled' s false ≡ get_or settled s false) where
  none_alike : (s : ℕ) → from ≤ s → s < limit → is_none (table_entry entries' s) ≡ is_none (table_entry entries s)
  none_alike s a b = ap is_none (alike s a b)

  -- entries and openness are alike on a stretch
  pick_alike : Picked entries settled count from limit best → Picked entries' settled' count from limit best
  pick_alike p =
      record {
        range = p.range;
        inside = p.inside;
        unsettled = λ h. open_alike best (p.inside h).0 (p.inside h).1 ∙ p.unsettled h;
        has_entry = λ h. none_alike best (p.inside h).0 (p.inside h).1 ∙ p.has_entry h;
        least =
            λ h s a b c z w.
            ap (λ (e : Entry). less_entry e (table_entry entries' best)) (alike s a b)
            ∙ ap (less_entry (table_entry entries s)) (alike best (p.inside h).0 (p.inside h).1)
            ∙ p.least h s a b c (sym (open_alike s a b) ∙ z) (sym (none_alike s a b) ∙ w);
        none_left = λ e s a b c z w. p.none_left e s a b c (sym (open_alike s a b) ∙ z) (sym (none_alike s a b) ∙ w);
      }

-- after state u is settled and its block is looked through anew
pub known_settled : (entries : List Entry) (settled : List Bool) (count : ℕ) (least : List ℕ) (u r : ℕ) → u / 64 < length least → Known entries settled count least
    → Picked entries (set settled u true) count (64 * (u / 64)) (64 * (u / 64) + 64) r → Known entries (set settled u true) count (set least (u / 64) r)
known_settled entries settled count least u r block known p b l =
    split (eqb b (u / 64))
    (λ e.
    subst (λ (i : ℕ). Picked entries (set settled u true) count (64 * i) (64 * i + 64) (get_or (set least (u / 64) r) i 0)) (sym (eqb-true b (u / 64) e))
    (subst (Picked entries (set settled u true) count (64 * (u / 64)) (64 * (u / 64) + 64)) (sym (get_or-set_same least (u / 64) r 0 block)) p))
    (λ e.
    let other : b ≡ u / 64 → ⊥ = eqb-false b (u / 64) e in
    subst (Picked entries (set settled u true) count (64 * b) (64 * b + 64)) (sym (get_or-set_other least (u / 64) b r 0 other))
    (pick_alike entries settled entries (set settled u true) count (64 * b) (64 * b + 64) (get_or least b 0)
    (λ s a k. refl)
    (λ s a k. get_or-set_other settled u s true false (λ z. other (sym (block_is b s a k) ∙ ap (λ (y : ℕ). y / 64) z)))
    (known b l)))

-- a state x takes a lower entry e
module _ (entries : List Entry) (settled : List Bool) (count : ℕ) (least : List ℕ) (x : ℕ) (e : Entry) (entries' : List Entry)
    (below : x < count) (near : is_none e ≡ false) (less : less_entry e (table_entry entries x) ≡ true) (put : Put entries x e entries') where
  own : table_entry entries' x ≡ e
  own = put x ∙ ap (λ (t : Bool). cond t e (table_entry entries x)) (eq-eqb x x refl)

  other : (s : ℕ) → (s ≡ x → ⊥) → table_entry entries' s ≡ table_entry entries s
  other s d = put s ∙ ap (λ (t : Bool). cond t e (table_entry entries s)) (ne_eqb s x d)

  -- another block
  block_other : (b : ℕ) → (x / 64 ≡ b → ⊥) → Picked entries settled count (64 * b) (64 * b + 64) (get_or least b 0) → Picked entries' settled count (64 * b) (64 * b + 64) (get_or least b 0)
  block_other b d =
      pick_alike entries settled entries' settled count (64 * b) (64 * b + 64) (get_or least b 0)
      (λ s a k. other s (λ z. d (ap (λ (y : ℕ). y / 64) (sym z) ∙ block_is b s a k)))
      (λ s a k. refl)

  -- its own stretch
  module _ (from limit best : ℕ) (inside : (from ≤ x) × (x < limit)) (p : Picked entries settled count from limit best) where
    -- where it is settled, it is none of those that are picked from
    pick_closed : (get_or settled x false ≡ false → ⊥) → Picked entries' settled count from limit best
    pick_closed closed =
        let not_own : (s : ℕ) → get_or settled s false ≡ false → s ≡ x → ⊥ = λ s z q. closed (subst (λ (i : ℕ). get_or settled i false ≡ false) q z) in
        record {
          range = p.range;
          inside = p.inside;
          unsettled = p.unsettled;
          has_entry = λ h. ap is_none (other best (not_own best (p.unsettled h))) ∙ p.has_entry h;
          least =
              λ h s a b c z w.
              ap (λ (y : Entry). less_entry y (table_entry entries' best)) (other s (not_own s z))
              ∙ ap (less_entry (table_entry entries s)) (other best (not_own best (p.unsettled h)))
              ∙ p.least h s a b c z (sym (ap is_none (other s (not_own s z))) ∙ w);
          none_left = λ q s a b c z w. p.none_left q s a b c z (sym (ap is_none (other s (not_own s z))) ∙ w);
        }

    module _ (unsettled : get_or settled x false ≡ false) where
      -- it is less than every state that is not less than the one that was picked
      pick_own : ((s : ℕ) → (s ≡ x → ⊥) → from ≤ s → s < limit → s < count → get_or settled s false ≡ false → is_none (table_entry entries s) ≡ false → less_entry (table_entry entries s) e ≡ false)
          → Picked entries' settled count from limit x
      pick_own h =
          record {
            range = omega (arith, below);
            inside = λ _. inside;
            unsettled = λ _. unsettled;
            has_entry = λ _. ap is_none own ∙ near;
            least =
                λ _ s a b c z w.
                split (eqb s x)
                (λ q. subst (λ (i : ℕ). less_entry (table_entry entries' i) (table_entry entries' x) ≡ false) (sym (eqb-true s x q)) (less_entry_self (table_entry entries' x)))
                (λ q.
                let d : s ≡ x → ⊥ = eqb-false s x q in
                ap (λ (y : Entry). less_entry y (table_entry entries' x)) (other s d)
                ∙ ap (less_entry (table_entry entries s)) own
                ∙ h s d a b c z (sym (ap is_none (other s d)) ∙ w));
            none_left = λ q. absurd (omega (arith, below));
          }

      not_less : best < count → (s : ℕ) → less_entry (table_entry entries s) (table_entry entries best) ≡ false → less_entry e (table_entry entries best) ≡ true → less_entry (table_entry entries s) e ≡ false
      not_less h s l k = less_entry_below e (table_entry entries best) (table_entry entries s) k l

      pick_kept : best < count → less_entry (table_entry entries' x) (table_entry entries' best) ≡ false → Picked entries' settled count from limit best
      pick_kept h k =
          split (eqb best x)
          (λ q.
          let is : best ≡ x = eqb-true best x q in
          subst (Picked entries' settled count from limit) (sym is)
          (pick_own (λ s d a b c z w. not_less h s (p.least h s a b c z w) (subst (λ (i : ℕ). less_entry e (table_entry entries i) ≡ true) (sym is) less))))
          (λ q.
          let far : best ≡ x → ⊥ = eqb-false best x q in
          record {
            range = p.range;
            inside = p.inside;
            unsettled = p.unsettled;
            has_entry = λ _. ap is_none (other best far) ∙ p.has_entry h;
            least =
                λ _ s a b c z w.
                split (eqb s x)
                (λ r. subst (λ (i : ℕ). less_entry (table_entry entries' i) (table_entry entries' best) ≡ false) (sym (eqb-true s x r)) k)
                (λ r.
                let d : s ≡ x → ⊥ = eqb-false s x r in
                ap (λ (y : Entry). less_entry y (table_entry entries' best)) (other s d)
                ∙ ap (less_entry (table_entry entries s)) (other best far)
                ∙ p.least h s a b c z (sym (ap is_none (other s d)) ∙ w));
            none_left = λ e'. absurd (omega arith);
          })

      pick_lesser : Picked entries' settled count from limit (lesser_of entries' count best x)
      pick_lesser =
          lesser_cases entries' count best x (Picked entries' settled count from limit)
          (λ q. absurd (omega (arith, below)))
          (λ q n. pick_own (λ s d a b c z w. absurd (p.none_left q s a b c z w)))
          (λ m n l.
          let h : best < count = omega (arith, m, p.range) in
          split (eqb best x)
          (λ q. clash l (subst (λ (i : ℕ). less_entry (table_entry entries' x) (table_entry entries' i) ≡ false) (sym (eqb-true best x q)) (less_entry_self (table_entry entries' x))))
          (λ q.
          let k : less_entry e (table_entry entries best) ≡ true =
          ap (less_entry e) (sym (other best (eqb-false best x q))) ∙ ap (λ (y : Entry). less_entry y (table_entry entries' best)) (sym own) ∙ l in
          pick_own (λ s d a b c z w. not_less h s (p.least h s a b c z w) k)))
          (λ m n l. pick_kept (omega (arith, m, p.range)) l)

  -- the blocks after it is noted
  module _ (few : count ≤ 4096) (long : 64 ≤ length least) (known : Known entries settled count least) where
    block : x / 64 < length least
    block = omega (arith, block_few x (omega (arith, few, below)), long)

    within : (64 * (x / 64) ≤ x) × (x < 64 * (x / 64) + 64)
    within = (omega arith, omega arith)

    at_own : (least' : List ℕ) → Picked entries' settled count (64 * (x / 64)) (64 * (x / 64) + 64) (get_or least' (x / 64) 0) → ((b : ℕ) → (b ≡ x / 64 → ⊥) → get_or least' b 0 ≡ get_or least b 0)
        → Known entries' settled count least'
    at_own least' p same b l =
        split (eqb b (x / 64))
        (λ q. subst (λ (i : ℕ). Picked entries' settled count (64 * i) (64 * i + 64) (get_or least' i 0)) (sym (eqb-true b (x / 64) q)) p)
        (λ q.
        let d : b ≡ x / 64 → ⊥ = eqb-false b (x / 64) q in
        subst (Picked entries' settled count (64 * b) (64 * b + 64)) (sym (same b d)) (block_other b (λ z. d (sym z)) (known b l)))

    -- an open state is compared with the least of its block
    pub known_open : get_or settled x false ≡ false → Known entries' settled count (set least (x / 64) (lesser_of entries' count (get_or least (x / 64) 0) x))
    known_open unsettled =
        let best = get_or least (x / 64) 0 in
        let r = lesser_of entries' count best x in
        at_own (set least (x / 64) r)
        (subst (Picked entries' settled count (64 * (x / 64)) (64 * (x / 64) + 64)) (sym (get_or-set_same least (x / 64) r 0 block))
        (pick_lesser (64 * (x / 64)) (64 * (x / 64) + 64) best within (known (x / 64) (begins x count below)) unsettled))
        (λ b d. get_or-set_other least (x / 64) b r 0 d)

    -- a settled one is none of those that are picked from
    pub known_closed : (get_or settled x false ≡ false → ⊥) → Known entries' settled count least
    known_closed closed =
        at_own least
        (pick_closed (64 * (x / 64)) (64 * (x / 64) + 64) (get_or least (x / 64) 0) within (known (x / 64) (begins x count below)) closed)
        (λ b d. refl)

-- the same of the entries and blocks of a search
module _ (entries : List Entry) (x : Selection) (state : ℕ) (e : Entry) (selecting : Selecting entries x) (below : state < length entries) (near : is_none e ≡ false)
    (less : less_entry e (table_entry entries state) ≡ true) (long : 64 ≤ length x.least) where
  abbrev lowered_entries : List Entry
  lowered_entries = set entries state e

  same_length : length (set entries state e) ≡ length entries
  same_length = length-set entries state e

  known_before : Known entries x.settled (length lowered_entries) x.least
  known_before = subst (λ (n : ℕ). Known entries x.settled n x.least) (sym same_length) selecting.known

  still_below : state < length lowered_entries
  still_below = omega (arith, same_length)

  still_few : length lowered_entries ≤ 4096
  still_few = omega (arith, same_length, selecting.few)

  put : Put entries state e lowered_entries
  put = entry_put entries state e below

  pub lowered_open : get_or x.settled state false ≡ false → (r : ℕ) → r ≡ lesser_of lowered_entries (length lowered_entries) (get_or x.least (state / 64) 0) state
      → Selecting lowered_entries (record { settled = x.settled; least = set x.least (state / 64) r })
  lowered_open unsettled r is =
      record {
        few = still_few;
        known =
            subst (λ (best : ℕ). Known lowered_entries x.settled (length lowered_entries) (set x.least (state / 64) best)) (sym is)
            (known_open entries x.settled (length lowered_entries) x.least state e lowered_entries still_below near less put still_few long known_before unsettled);
      }

  pub lowered_closed : get_or x.settled state false ≡ true → Selecting lowered_entries x
  lowered_closed settled =
      record {
        few = still_few;
        known =
            known_closed entries x.settled (length lowered_entries) x.least state e lowered_entries still_below near less put still_few long known_before (λ z. clash settled z);
      }
