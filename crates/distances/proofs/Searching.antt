-- What holds between the rounds of the search, and that it ends in the table.
use Prim.Native.Nat.{ℕ, zero, suc, ◌+◌, ◌≤◌, ◌<◌}
use mathlib.Core.Path.{◌≡◌, refl, sym, ap, subst, ◌∙◌}
use mathlib.Core.Bool.{Bool, true, false, not}
use mathlib.Core.List.{List, [], ◌∷◌, map}
use mathlib.Core.Logic.{◌⊎◌, inl, inr, ⊎_elim}
use mathlib.Core.Option.{none}
use native.Mathlib.Omega.{arith}
use lib.ListN.{length, get_or, set, length-set, length-map, replicate, length-replicate, get_or-replicate}
use lib.Seq.{get_or-set_same, get_or-set_other, ext_get_or}
use Rattle.files.specs.Below.{bit}
use Rattle.files.specs.Task.{action_count, action_of}
use Rattle.files.specs.Accepted.{accepted_task}
use Rattle.files.specs.Dense.{row_pairs, row_action, held}
use Rattle.files.specs.declared.arrays.Arrays.{Arrays}
use Rattle.files.proofs.BelowLaws.{map_entry}
use Rattle.files.proofs.Logic.{clash, split}
use Rattle.plans.specs.State.{all_hold}
use Rattle.files.proofs.HeldTask.{actions_held, goal_held}
use Rattle.distances.specs.States.{state_count, state_at}
use Rattle.distances.specs.Table.{Distance, distances, entry_of, table_of}
use Rattle.distances.specs.Entries.{no_entry, is_none, first_entry, after_step, Low, table_entry}
use Rattle.distances.specs.Rows.{offered, row_variables}
use Rattle.distances.specs.Settling.{Picked}
use Rattle.distances.specs.declared.Entry.{Entry}
use Rattle.distances.proofs.DistanceLaws.{Le, le_none}
use Rattle.distances.proofs.Distances.{settled_is, distances_length}
use Rattle.distances.proofs.Settling.{Going, settle, settled, starts}
use Rattle.distances.proofs.EntryLaws.{none_is, Near, near_some, Within, within_low, within_near, within_fewer, within_goal, within_step, less_some, distance_of, distance_none, distance_some, distance_goal, within_entry}
use Rattle.distances.proofs.Offering.{offered_same, offers, offered_relaxed}
use Rattle.distances.proofs.HeldStates.{held_variables, held_actions, held_valid}

-- how many states are open
unfoldable pub open_count : List Bool → ℕ
open_count [] = 0
open_count (x ∷ l) = bit (not x) + open_count l

pub open_most : (l : List Bool) → open_count l ≤ length l
unfolding open_count
open_most [] = omega arith
open_most (true ∷ l) = omega (arith, open_most l)
open_most (false ∷ l) = omega (arith, open_most l)

pub open_set : (l : List Bool) (s : ℕ) → s < length l → get_or l s false ≡ false → suc (open_count (set l s true)) ≡ open_count l
unfolding open_count
open_set [] s h e = absurd (omega arith)
open_set (x ∷ l) zero h e = rw e (omega arith)
open_set (x ∷ l) (suc s) h e = omega (arith, open_set l s (omega arith) e)

-- a state is settled
abbrev pub is_settled : List Bool → ℕ → Bool
is_settled settled s = get_or settled s false

-- an entry is none, or of few steps and minutes
abbrev pub Small : ℕ → Entry → Type 0
Small left e = (e ≡ no_entry) ⊎ Within left e

small_distance : (left : ℕ) (e : Entry) → Small left e → (distance_of e ≡ none) ⊎ (is_none e ≡ false)
small_distance left e p = ⊎_elim (λ q. inl (distance_none e (none_is e q))) (λ q. inr (near_some e (within_near left e q))) p

small_low : (left : ℕ) (e : Entry) → Small left e → is_none e ≡ false → Within left e
small_low left e p h = ⊎_elim (λ q. clash (none_is e q) h) (λ q. q) p

small_entry : (left : ℕ) (e : Entry) → Small left e → entry_of (distance_of e) ≡ e
small_entry left e p =
    ⊎_elim
    (λ q. ap entry_of (distance_none e (none_is e q)) ∙ sym q)
    (within_entry left e)
    p

abbrev pub distance_in : List Entry → ℕ → Distance
distance_in entries s = distance_of (table_entry entries s)

-- the arrays, the entries and which states are settled, before state u is settled or the search ends
pub record Searching (d : Arrays) (entries : List Entry) (settled : List Bool) (u : ℕ) : Type 0 where
  pub accepted : accepted_task (held d) ≡ true
  pub states : length entries ≡ state_count (held d).variables
  pub few : length entries ≤ 4096
  pub size : length settled ≡ 4096
  pub going : Going (held d) (distance_in entries) (is_settled settled)
  pub small : (s : ℕ) → s < length entries → Small (open_count settled) (table_entry entries s)
  pub picked : Picked entries settled (length entries) 0 (length entries) u

module _ (d : Arrays) where
  -- the first round
  module _ (entries : List Entry) (accepted : accepted_task (held d) ≡ true) (states : length entries ≡ state_count (held d).variables) (few : length entries ≤ 4096)
      (filled : (s : ℕ) → s < length entries → table_entry entries s ≡ first_entry (all_hold (row_pairs d.goal 0 0 d.variables) (state_at (row_variables d.variables d.sizes d.starts) s))) where
    at_goal_lem : (s : ℕ) → all_hold (held d).goal (state_at (held d).variables s) ≡ all_hold (row_pairs d.goal 0 0 d.variables) (state_at (row_variables d.variables d.sizes d.starts) s)
    at_goal_lem s = rw (goal_held d, held_variables d) refl

    first_is : (s : ℕ) → s < length entries → table_entry entries s ≡ first_entry (all_hold (held d).goal (state_at (held d).variables s))
    first_is s l = filled s l ∙ ap first_entry (sym (at_goal_lem s))

    first_yes : (s : ℕ) → s < length entries → all_hold (held d).goal (state_at (held d).variables s) ≡ true → table_entry entries s ≡ first_entry true
    first_yes s l e = first_is s l ∙ ap first_entry e

    first_no : (s : ℕ) → s < length entries → all_hold (held d).goal (state_at (held d).variables s) ≡ false → table_entry entries s ≡ no_entry
    first_no s l e = first_is s l ∙ ap first_entry e

    pub begin : (settled : List Bool) → settled ≡ replicate 4096 false → (u : ℕ) → Picked entries settled (length entries) 0 (length entries) u → Searching d entries settled u
    begin settled fresh u p =
        record {
          accepted = accepted;
          states = states;
          few = few;
          size = long;
          going =
              starts (held d) (held_valid d accepted) (distance_in entries) (is_settled settled)
              (λ s l e. ap distance_of (first_yes s (omega arith) e) ∙ distance_goal)
              (λ s l e. ap distance_of (first_no s (omega arith) e) ∙ distance_none no_entry (none_is no_entry refl))
              (λ s l. ap (λ (l : List Bool). get_or l s false) fresh ∙ get_or-replicate 4096 s false false (omega (arith, states)));
          small =
              λ s l.
              split (all_hold (held d).goal (state_at (held d).variables s))
              (λ e.
              inr
              (subst (Within (open_count settled)) (sym (first_yes s l e))
              (within_goal (open_count settled) (omega (arith, open_most settled, long)))))
              (λ e. inl (first_no s l e));
          picked = p;
        }
      where
        long : length settled ≡ 4096
        long = ap (λ (l : List Bool). length l) fresh ∙ length-replicate {A = Bool} 4096 false

  -- a round
  module _ (entries : List Entry) (settled : List Bool) (u : ℕ) (r : Searching d entries settled u) (h : u < length entries) where
    pub inside : u < length settled
    inside = omega (arith, r.few, r.size)

    -- one state fewer is open
    falls : suc (open_count (set settled u true)) ≡ open_count settled
    falls = open_set settled u inside (r.picked.unsettled h)

    pub fewer : (settled' : List Bool) → settled' ≡ set settled u true → suc (open_count settled') ≡ open_count settled
    fewer settled' is = ap (λ (l : List Bool). suc (open_count l)) is ∙ falls

    within : Within (open_count settled) (table_entry entries u)
    within = small_low (open_count settled) (table_entry entries u) (r.small u h) (r.picked.has_entry h)

    pub low : Low (table_entry entries u)
    low = within_low (open_count settled) (table_entry entries u) within

    least_open : (s : ℕ) → s < length entries → is_settled settled s ≡ false → Le (distance_in entries u) (distance_in entries s)
    least_open s l e =
        ⊎_elim
        (λ z. subst (λ (x : Distance). Le (distance_in entries u) x) (sym z) (le_none (distance_in entries u)))
        (λ z.
        rw (distance_some (table_entry entries u) (r.picked.has_entry h), distance_some (table_entry entries s) z)
        (sym (less_some (table_entry entries s) (table_entry entries u)) ∙ r.picked.least h s (omega arith) l l e z))
        (small_distance (open_count settled) (table_entry entries s) (r.small s l))

    cheap : (a : ℕ) → (action_of (held d) a).cost ≤ 1000000
    cheap a = ((held_valid d r.accepted).action a).cost

    more_within : (a : ℕ) → Within (open_count (set settled u true)) (after_step (action_of (held d) a) (table_entry entries u))
    more_within a = within_step (open_count (set settled u true)) (action_of (held d) a) (table_entry entries u) (cheap a) (subst (λ (left : ℕ). Within left (table_entry entries u)) (sym falls) within)

    affordable : (a : ℕ) → Near (after_step (action_of (held d) a) (table_entry entries u))
    affordable a = within_near (open_count (set settled u true)) (after_step (action_of (held d) a) (table_entry entries u)) (more_within a)

    old_small : (e : Entry) → Small (open_count settled) e → Small (open_count (set settled u true)) e
    old_small e p = ⊎_elim inl (λ q. inr (within_fewer (open_count settled) (open_count (set settled u true)) e (omega (arith, falls)) q)) p

    module _ (entries' : List Entry) (same : length entries' ≡ length entries)
        (given : (s : ℕ) → s < length entries → table_entry entries' s ≡ offered (row_variables d.variables d.sizes d.starts) (row_action d.variables d.costs d.conditions d.effects) u (table_entry entries u) s (table_entry entries s) d.actions) where
      -- the same by the task
      by_task : (s : ℕ) → s < state_count (held d).variables → table_entry entries' s ≡ offered (held d).variables (action_of (held d)) u (table_entry entries u) s (table_entry entries s) (action_count (held d))
      by_task s l =
          given s (omega (arith, r.states))
          ∙ offered_same (row_variables d.variables d.sizes d.starts) (row_action d.variables d.costs d.conditions d.effects) (action_of (held d)) u (table_entry entries u) s (table_entry entries s) d.actions
          (λ a k. sym (held_actions d a (omega (arith, actions_held d))))
          ∙ rw (actions_held d, held_variables d) refl

      settled_next : (v : ℕ) → Picked entries' (set settled u true) (length entries') 0 (length entries') v → Searching d entries' (set settled u true) v
      settled_next v p =
          let t = held d in
          let relaxed = offered_relaxed t (table_entry entries) (table_entry entries') u (λ a k. affordable a) by_task in
          record {
            accepted = r.accepted;
            states = same ∙ r.states;
            few = omega (arith, same, r.few);
            size = length-set settled u true ∙ r.size;
            going =
                settle t (held_valid d r.accepted) (distance_in entries) (distance_in entries') (is_settled settled) (is_settled (set settled u true)) u r.going relaxed
                (omega (arith, r.states))
                (r.picked.unsettled h)
                (λ s l e. least_open s (omega (arith, r.states)) e)
                (get_or-set_same settled u true false inside)
                (λ s e. get_or-set_other settled u s true false e);
            small =
                λ s l.
                let below : s < state_count (held d).variables = omega (arith, same, r.states) in
                let o = offers t.variables (action_of t) u (table_entry entries u) s (table_entry entries s) (action_count t) (λ a k. affordable a) in
                ⊎_elim
                (λ z. subst (Small (open_count (set settled u true))) (sym (by_task s below ∙ z)) (old_small (table_entry entries s) (r.small s (omega (arith, same)))))
                (λ z. subst (Small (open_count (set settled u true))) (sym (by_task s below ∙ z.3)) (inr (more_within z.0)))
                o.came;
            picked = p;
          }

      pub next : (v : ℕ) (settled' : List Bool) → settled' ≡ set settled u true → Picked entries' settled' (length entries') 0 (length entries') v → Searching d entries' settled' v
      next v settled' is p =
          subst (λ (l : List Bool). Searching d entries' l v) (sym is) (settled_next v (subst (λ (l : List Bool). Picked entries' l (length entries') 0 (length entries') v) is p))

  -- the end
  module _ (entries : List Entry) (settled' : List Bool) (u : ℕ) (r : Searching d entries settled' u) (h : length entries ≤ u) where
    none_open : (s : ℕ) → s < length entries → is_settled settled' s ≡ false → distance_in entries s ≡ none
    none_open s l e =
        ⊎_elim
        (λ z. z)
        (λ z. absurd (r.picked.none_left (omega (arith, r.picked.range)) s (omega arith) l l e z))
        (small_distance (open_count settled') (table_entry entries s) (r.small s l))

    is_distance : (s : ℕ) → s < length entries → distance_in entries s ≡ get_or (distances (held d)) s none
    is_distance s l =
        let valid = held_valid d r.accepted in
        settled_is (held d) valid (distance_in entries)
        (settled (held d) valid (distance_in entries) (is_settled settled') r.going (λ n k e. none_open n (omega (arith, r.states)) e))
        s
        (omega (arith, r.states))

    pub is_entry : (s : ℕ) → s < length entries → table_entry entries s ≡ entry_of (get_or (distances (held d)) s none)
    is_entry s l = sym (small_entry (open_count settled') (table_entry entries s) (r.small s l)) ∙ ap entry_of (is_distance s l)

    pub end : entries ≡ table_of (held d)
    unfolding table_of table_entry
    end =
        let long : length (distances (held d)) ≡ length entries = distances_length (held d) ∙ sym r.states in
        ext_get_or no_entry entries (map entry_of (distances (held d))) (sym (length-map (distances (held d)) entry_of ∙ long))
        (λ s l. is_entry s l ∙ sym (map_entry entry_of (distances (held d)) s no_entry none (omega arith)))
