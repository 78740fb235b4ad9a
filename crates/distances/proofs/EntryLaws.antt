-- Laws of entries: none, the order, one step more; entries as distances; and entries in a list of numbers.
use Prim.Native.Nat.{ℕ, suc, ◌+◌, ◌*◌, ◌≤◌, ◌<◌}
use mathlib.Core.Path.{◌≡◌, refl, sym, ap, ap₂, ◌∙◌}
use mathlib.Core.Bool.{Bool, true, false, cond, ◌&&◌}
use mathlib.Core.List.{List}
use mathlib.Core.Logic.{◌⊎◌, inl, inr}
use mathlib.Core.Option.{none, some}
use native.Mathlib.Omega.{arith}
use lib.Dec.{eqb, ltb}
use lib.ListN.{length, get_or, set}
use lib.Seq.{get_or-set_same, get_or-set_other}
use borrow.Author.Tests.{lt-ltb, le-ltb, le-leb, lt-leb, eq-eqb, ne_eqb, eqb-true, eqb-false}
use Rattle.std.proofs.lemmas.List.{get_or_default}
use Rattle.files.specs.Task.{Action}
use Rattle.files.proofs.Logic.{clash, split, split_le, split_option, and_split, and_join}
use Rattle.files.proofs.Truth.{same_truth}
use Rattle.plans.specs.Plan.{Total, no_steps, add_step, at_most}
use Rattle.distances.specs.Table.{Distance, less, least, same, step_to, entry, minutes_of, steps_of, entry_of}
use Rattle.distances.specs.Entries.{no_entry, is_none, first_entry, entry_total, less_entry, same_entry, lowered, after_step, Low, table_entry}
use Rattle.distances.specs.Settling.{Offered}
use Rattle.distances.specs.declared.Entry.{Entry}
use Rattle.distances.proofs.DistanceLaws.{le_refl, le_trans, less_le, some_none, same_is, step_to_none, step_to_some, add_step_steps, add_step_minutes}

-- none
pub is_none_lem : (e far : Entry) → far ≡ no_entry → eqb (minutes_of e) (minutes_of far) ≡ is_none e
unfolding is_none
is_none_lem e far h = ap (λ (x : Entry). eqb (minutes_of e) (minutes_of x)) h

pub none_is : (e : Entry) → e ≡ no_entry → is_none e ≡ true
unfolding is_none
none_is e h = eq-eqb (minutes_of e) (minutes_of no_entry) (ap minutes_of h)

-- an entry below that of none
abbrev pub Near : Entry → Type 0
Near e = minutes_of e < minutes_of no_entry

pub near_some : (e : Entry) → Near e → is_none e ≡ false
unfolding is_none
near_some e h = ne_eqb (minutes_of e) (minutes_of no_entry) (λ q. omega (arith, h, q))

pub low_near : (e : Entry) → Low e → Near e
unfolding entry_of
low_near e h = omega (arith, h.minutes)

-- before any step
pub first_yes : (reached : Bool) → reached ≡ true → entry 0 0 ≡ first_entry reached
unfolding entry_of no_steps
first_yes reached e = rw e refl

pub first_no : (reached : Bool) (far : Entry) → reached ≡ false → far ≡ no_entry → far ≡ first_entry reached
first_no reached far e h = rw e h

-- an entry of few steps, each of which costs at most a million
abbrev pub Within : ℕ → Entry → Type 0
Within left e = (steps_of e + left ≤ 4096) × (minutes_of e ≤ 1000000 * steps_of e)

pub within_low : (left : ℕ) (e : Entry) → Within left e → Low e
within_low left e h = record { minutes = omega (arith, h.0, h.1); steps = omega (arith, h.0) }

pub within_near : (left : ℕ) (e : Entry) → Within left e → Near e
within_near left e h = low_near e (within_low left e h)

pub within_fewer : (left fewer : ℕ) (e : Entry) → fewer ≤ left → Within left e → Within fewer e
within_fewer left fewer e l h = (omega (arith, h.0), h.1)

pub within_goal : (left : ℕ) → left ≤ 4096 → Within left (first_entry true)
unfolding entry_of no_steps
within_goal left h = (omega arith, omega arith)

pub within_step : (left : ℕ) (a : Action) (e : Entry) → a.cost ≤ 1000000 → Within (suc left) e → Within left (after_step a e)
unfolding after_step add_step
within_step left a e c h = (omega (arith, h.0), omega (arith, h.1))

pub within_total : (e : Entry) (x : Total) → entry_total e ≡ x → x.steps ≤ 4096 → x.minutes ≤ 1000000 * x.steps → Within 0 e
within_total e x is k m = (omega (arith, ap (λ (y : Total). y.steps) is), omega (arith, ap (λ (y : Total). y.steps) is, ap (λ (y : Total). y.minutes) is))

-- the order: by minutes, then by steps
module _ (x y : Entry) where
  pub less_minutes : minutes_of x < minutes_of y → true ≡ less_entry x y
  unfolding less_entry at_most
  less_minutes h = rw (le-ltb (minutes_of y) (minutes_of x) (omega arith), ne_eqb (minutes_of y) (minutes_of x) (λ e. omega arith)) refl

  pub less_steps : minutes_of x ≡ minutes_of y → ltb (steps_of x) (steps_of y) ≡ less_entry x y
  unfolding less_entry at_most
  less_steps e =
      split_le (steps_of y) (steps_of x)
      (λ l. rw (le-ltb (minutes_of y) (minutes_of x) (omega arith), eq-eqb (minutes_of y) (minutes_of x) (sym e), le-leb (steps_of y) (steps_of x) l, le-ltb (steps_of x) (steps_of y) l) refl)
      (λ l. rw (le-ltb (minutes_of y) (minutes_of x) (omega arith), eq-eqb (minutes_of y) (minutes_of x) (sym e), lt-leb (steps_of y) (steps_of x) l, lt-ltb (steps_of x) (steps_of y) l) refl)

  pub less_not : minutes_of y ≤ minutes_of x → (minutes_of x ≡ minutes_of y → ⊥) → false ≡ less_entry x y
  unfolding less_entry at_most
  less_not l d = let h : minutes_of y < minutes_of x = omega arith in rw (lt-ltb (minutes_of y) (minutes_of x) h) refl

  -- as distances
  pub less_some : less_entry x y ≡ less (some (entry_total x)) (some (entry_total y))
  unfolding less_entry less
  less_some = refl

  same_some : same_entry x y ≡ same (some (entry_total x)) (some (entry_total y))
  unfolding same_entry less_entry same less
  same_some = refl

pub less_entry_self : (x : Entry) → less_entry x x ≡ false
less_entry_self x = less_some x x ∙ le_refl (some (entry_total x))

pub less_entry_trans : (x y z : Entry) → less_entry y x ≡ false → less_entry z y ≡ false → less_entry z x ≡ false
less_entry_trans x y z e h = less_some z x ∙ le_trans (some (entry_total x)) (some (entry_total y)) (some (entry_total z)) (sym (less_some y x) ∙ e) (sym (less_some z y) ∙ h)

pub less_entry_below : (x y z : Entry) → less_entry x y ≡ true → less_entry z y ≡ false → less_entry z x ≡ false
less_entry_below x y z e h =
    less_some z x
    ∙ le_trans (some (entry_total x)) (some (entry_total y)) (some (entry_total z)) (less_le (some (entry_total x)) (some (entry_total y)) (sym (less_some x y) ∙ e)) (sym (less_some z y) ∙ h)

-- alike by their numbers
same_self : (x : Entry) → same_entry x x ≡ true
unfolding same_entry
same_self x = rw (less_entry_self x)

same_totals : (x y : Entry) → same_entry x y ≡ true → entry_total x ≡ entry_total y
same_totals x y e =
    let both : some (entry_total x) ≡ some (entry_total y) = same_is (some (entry_total x)) (some (entry_total y)) (sym (same_some x y) ∙ e) in
    cc

pub same_numbers : (x y : Entry) → eqb (minutes_of x) (minutes_of y) && eqb (steps_of x) (steps_of y) ≡ same_entry x y
same_numbers x y =
    same_truth (eqb (minutes_of x) (minutes_of y) && eqb (steps_of x) (steps_of y)) (same_entry x y)
    (λ e.
    let both = and_split (eqb (minutes_of x) (minutes_of y)) (eqb (steps_of x) (steps_of y)) e in
    let is : y ≡ x = sym (ap₂ entry (eqb-true (minutes_of x) (minutes_of y) both.0) (eqb-true (steps_of x) (steps_of y) both.1)) in
    ap (same_entry x) is ∙ same_self x)
    (λ e.
    let is = same_totals x y e in
    and_join (eq-eqb (minutes_of x) (minutes_of y) (ap (λ (t : Total). t.minutes) is)) (eq-eqb (steps_of x) (steps_of y) (ap (λ (t : Total). t.steps) is)))

-- the distance of an entry
abbrev pub distance_of : Entry → Distance
distance_of e = cond (is_none e) none (some (entry_total e))

pub distance_none : (e : Entry) → is_none e ≡ true → distance_of e ≡ none
distance_none e h = rw h

pub distance_some : (e : Entry) → is_none e ≡ false → distance_of e ≡ some (entry_total e)
distance_some e h = rw h

pub distance_goal : distance_of (first_entry true) ≡ some no_steps
unfolding entry_of no_steps is_none
distance_goal = refl

entry_of_some : (e : Entry) → entry_of (some (entry_total e)) ≡ e
unfolding entry_of
entry_of_some e = refl

pub within_entry : (left : ℕ) (e : Entry) → Within left e → entry_of (distance_of e) ≡ e
within_entry left e h = ap entry_of (distance_some e (near_some e (within_near left e h))) ∙ entry_of_some e

-- the distance that an entry is of
pub total_is : (e : Entry) (d : Distance) (x : Total) → e ≡ entry_of d → d ≡ some x → entry_total e ≡ x
unfolding entry_of
total_is e d x is z = ap (λ (y : Entry). entry_total y) (is ∙ ap entry_of z)

pub some_distance : (e : Entry) (d : Distance) → e ≡ entry_of d → is_none e ≡ false → d ≡ some (entry_total e)
some_distance e d is h =
    split_option d
    (λ z. clash (none_is e (is ∙ ap entry_of z)) h)
    (λ x z. z ∙ ap some (sym (total_is e d x is z)))

-- the order, and an entry that is offered
less_far : (x y : Entry) → Near x → is_none y ≡ true → less_entry x y ≡ true
unfolding is_none
less_far x y h e = sym (less_minutes x y (omega (arith, h, eqb-true (minutes_of y) (minutes_of no_entry) e)))

less_distance : (x y : Entry) → Near x → less_entry x y ≡ less (some (entry_total x)) (distance_of y)
unfolding less
less_distance x y h = split (is_none y) (λ e. rw e (less_far x y h e)) (λ e. rw e (less_some x y))

lowered_some : (x y : Entry) → Near x → distance_of (lowered x y) ≡ least (distance_of y) (some (entry_total x))
unfolding lowered least
lowered_some x y h =
    rw (← less_distance x y h)
    (split (less_entry x y) (λ e. rw e (distance_some x (near_some x h))) (λ e. rw e refl))

pub lowered_distance : (x y : Entry) → Near x → distance_of (lowered x y) ≡ least (distance_of y) (distance_of x)
lowered_distance x y h = lowered_some x y h ∙ ap (least (distance_of y)) (sym (distance_some x (near_some x h)))

pub lowered_is : (x y : Entry) → (lowered x y ≡ y) ⊎ (lowered x y ≡ x)
unfolding lowered
lowered_is x y = split (less_entry x y) (λ e. inr (rw e)) (λ e. inl (rw e))

-- one step more
pub step_is : (a : Action) (e : Entry) (cost : ℕ) → a.cost ≡ cost → entry (cost + minutes_of e) (steps_of e + 1) ≡ after_step a e
unfolding after_step add_step
step_is a e cost h = sym (ap (λ (n : ℕ). entry (n + minutes_of e) (steps_of e + 1)) h)

after_total : (a : Action) (e : Entry) → entry_total (after_step a e) ≡ add_step a (entry_total e)
unfolding after_step add_step
after_total a e = refl

-- a step more on an entry that has room for it
pub near_after : (a : Action) (e : Entry) → a.cost ≤ 1000000 → Low e → Near (after_step a e)
unfolding after_step add_step entry_of
near_after a e h low = omega (arith, h, low.minutes)

after_near : (a : Action) (e : Entry) → Near (after_step a e) → Near e
unfolding after_step add_step
after_near a e h = omega (arith, h)

step_distance : (a : Action) (e : Entry) → some (entry_total (after_step a e)) ≡ step_to a (some (entry_total e))
step_distance a e = ap some (after_total a e) ∙ sym (step_to_some a (entry_total e))

pub after_distance : (a : Action) (e : Entry) → Near (after_step a e) → distance_of (after_step a e) ≡ step_to a (distance_of e)
after_distance a e h = distance_some (after_step a e) (near_some (after_step a e) h) ∙ step_distance a e ∙ ap (step_to a) (sym (distance_some e (near_some e (after_near a e h))))

-- distances that differ are not the same
pub not_same : (x y : Distance) → (x ≡ y → ⊥) → false ≡ same x y
not_same x y d = split_same (same x y) refl
  where
    split_same : (b : Bool) → same x y ≡ b → false ≡ b
    split_same true e = absurd (d (same_is x y e))
    split_same false e = refl

-- a step more in front of an entry: as for its distance, and never the same
pub same_step : (a : Action) (x y : Entry) (d e : Distance) → x ≡ entry_of d → y ≡ entry_of e → is_none x ≡ false → is_none y ≡ false → same_entry (after_step a x) y ≡ same (step_to a d) e
same_step a x y d e p q far near =
    same_some (after_step a x) y
    ∙ ap (λ (z : Distance). same z (some (entry_total y))) (step_distance a x ∙ ap (step_to a) (sym (some_distance x d p far)))
    ∙ ap (same (step_to a d)) (sym (some_distance y e q near))

step_more : (a : Action) (e : Entry) → (entry_total (after_step a e)).steps ≡ (entry_total e).steps + 1
unfolding after_step
step_more a e = add_step_steps a (entry_total e)

pub step_other : (a : Action) (e : Entry) → same_entry (after_step a e) e ≡ false
step_other a e =
    same_some (after_step a e) e
    ∙ sym (not_same _ _
    (λ z.
    let same_total : some (entry_total (after_step a e)) ≡ some (entry_total e) = z in
    let totals : entry_total (after_step a e) ≡ entry_total e = cc in
    omega (arith, step_more a e, ap (λ (x : Total). x.steps) totals)))

-- where no distance with a step more has an entry's minutes, there is no way to the entry
pub minutes_not_same : (a : Action) (y : Entry) (d e : Distance) → e ≡ some (entry_total y) → ((total : Total) → d ≡ some total → (add_step a total).minutes ≡ minutes_of y → ⊥)
    → false ≡ same (step_to a d) e
minutes_not_same a y d e q apart =
    not_same (step_to a d) e
    (λ z.
    split_option d
    (λ w. some_none (entry_total y) (sym q ∙ sym z ∙ ap (step_to a) w ∙ step_to_none a))
    (λ total w.
    let here : some (add_step a total) ≡ some (entry_total y) = sym (step_to_some a total) ∙ sym (ap (step_to a) w) ∙ z ∙ q in
    let totals : add_step a total ≡ entry_total y = cc in
    apart total w (ap (λ (t : Total). t.minutes) totals)))

-- by way of none there is no entry
pub far_not_same : (a : Action) (x y : Entry) (d e : Distance) → x ≡ entry_of d → is_none x ≡ true → e ≡ some (entry_total y) → Near y
    → false ≡ same (step_to a d) e
unfolding is_none
far_not_same a x y d e p far q near =
    minutes_not_same a y d e q
    (λ total w m.
    omega (arith, near, m, eqb-true (minutes_of x) (minutes_of no_entry) far, add_step_minutes a total, ap (λ (t : Total). t.minutes) (total_is x d total p w)))

-- an entry in a table
pub entry_read : (entries : List Entry) (s : ℕ) (e : Entry) → s < length entries → get_or entries s e ≡ table_entry entries s
unfolding table_entry
entry_read entries s e h = get_or_default entries s e no_entry h

pub less_read : (entries : List Entry) (s r : ℕ) (x y : Entry) (b : Bool) → s < length entries → r < length entries → b ≡ less_entry (get_or entries s x) (get_or entries r y)
    → less_entry (table_entry entries s) (table_entry entries r) ≡ b
less_read entries s r x y b h k is = sym (is ∙ ap₂ less_entry (entry_read entries s x h) (entry_read entries r y k))

pub entry_same : (entries : List Entry) (x : ℕ) (e : Entry) → x < length entries → table_entry (set entries x e) x ≡ e
unfolding table_entry
entry_same entries x e h = get_or-set_same entries x e no_entry h

pub entry_other : (entries : List Entry) (x s : ℕ) (e : Entry) → (s ≡ x → ⊥) → table_entry (set entries x e) s ≡ table_entry entries s
unfolding table_entry
entry_other entries x s e d = get_or-set_other entries x s e no_entry d

-- entries where that of one state is put
abbrev pub Put : (entries₀ : List Entry) (state : ℕ) (e : Entry) (entries : List Entry) → Type 0
Put entries₀ state e entries = (s : ℕ) → table_entry entries s ≡ cond (eqb s state) e (table_entry entries₀ s)

pub entry_put : (entries : List Entry) (x : ℕ) (e : Entry) → x < length entries → Put entries x e (set entries x e)
entry_put entries x e h s =
    split (eqb s x)
    (λ q. rw (q, eqb-true s x q) (entry_same entries x e h))
    (λ q. rw q (entry_other entries x s e (eqb-false s x q)))

-- a state that is offered an entry, and the others
module _ (entries : List Entry) (x : ℕ) (e : Entry) (b : Bool) (is : b ≡ less_entry e (table_entry entries x)) where
  offer_lower : (s : ℕ) → s ≡ x → lowered e (table_entry entries s) ≡ cond b e (table_entry entries s)
  unfolding lowered
  offer_lower s h = ap (λ (t : Bool). cond t e (table_entry entries s)) (ap (λ (n : ℕ). less_entry e (table_entry entries n)) h ∙ sym is)

  pub lower_yes : (entries' : List Entry) → b ≡ true → Put entries x e entries' → (count : ℕ) → Offered (λ s. eqb s x) count e entries entries'
  lower_yes entries' t p count s l =
      p s
      ∙ split (eqb s x)
      (λ h. rw h (sym (offer_lower s (eqb-true s x h) ∙ ap (λ (q : Bool). cond q e (table_entry entries s)) t)))
      (λ h. rw h refl)

  pub lower_no : b ≡ false → (count : ℕ) → Offered (λ s. eqb s x) count e entries entries
  lower_no t count s l =
      split (eqb s x)
      (λ h. rw h (sym (offer_lower s (eqb-true s x h) ∙ ap (λ (q : Bool). cond q e (table_entry entries s)) t)))
      (λ h. rw h refl)
