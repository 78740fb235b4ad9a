-- Entries that are the table of a task are its distances, wherever they stand.
use Prim.Native.Nat.{ℕ, ◌≤◌, ◌<◌}
use mathlib.Core.Path.{◌≡◌, sym, ap, ◌∙◌}
use mathlib.Core.Bool.{true, false}
use mathlib.Core.List.{List}
use mathlib.Core.Option.{none, some}
use native.Mathlib.Omega.{arith}
use lib.ListN.{length, get_or, length-map}
use lib.ListN.{get_or-append}
use Rattle.files.specs.Outcome.{overwrite}
use Rattle.files.specs.Task.{Task}
use Rattle.files.proofs.BelowLaws.{map_entry}
use Rattle.files.proofs.Logic.{clash, split_option}
use Rattle.files.proofs.Valid.{Valid}
use Rattle.plans.specs.Plan.{Total}
use Rattle.distances.specs.declared.Entry.{Entry}
use Rattle.distances.specs.States.{state_count}
use Rattle.distances.specs.Table.{entry_of, distances, table_of, start_number}
use Rattle.search.specs.FirstPlan.{first_plan}
use Rattle.distances.specs.Entries.{no_entry, is_none, entry_total, Low, table_entry}
use Rattle.distances.proofs.EntryLaws.{near_some, Within, within_low, within_near, within_total, total_is, some_distance}
use Rattle.distances.proofs.Radix.{start_below}
use Rattle.search.proofs.LeastPlans.{first_plan_none}
use Rattle.distances.proofs.Distances.{distances_length, steps_few, minutes_few}

-- as many entries as states
pub table_length : (t : Task) → length (table_of t) ≡ state_count t.variables
unfolding table_of
table_length t = length-map (distances t) entry_of ∙ distances_length t

-- the front of a lent table
pub filled_at : (old entries : List Entry) (s : ℕ) → s < length entries → table_entry (overwrite old entries) s ≡ table_entry entries s
unfolding table_entry overwrite
filled_at old entries s h = get_or-append entries _ no_entry s h

pub table_entry_lem : (t : Task) (old : List Entry) (s : ℕ) → s < state_count t.variables → table_entry (overwrite old (table_of t)) s ≡ entry_of (get_or (distances t) s none)
unfolding table_entry overwrite table_of
table_entry_lem t old s h =
    get_or-append (table_of t) _ no_entry s (omega (arith, length-map (distances t) entry_of, distances_length t))
    ∙ map_entry entry_of (distances t) s no_entry none (omega (arith, distances_length t))

module _ (t : Task) (look : ℕ → Entry) (entries_are : (s : ℕ) → s < state_count t.variables → look s ≡ entry_of (get_or (distances t) s none))
    (valid : Valid t) (few : state_count t.variables ≤ 4096) where
  -- few steps and minutes
  entry_within : (s : ℕ) (x : Total) → s < state_count t.variables → get_or (distances t) s none ≡ some x → Within 0 (look s)
  entry_within s x h q =
      within_total (look s) x (total_is (look s) (get_or (distances t) s none) x (entries_are s h) q) (omega (arith, steps_few t valid s x h q)) (minutes_few t valid s x h q)

  -- no plan from a state, and a plan with its cost and steps
  entry_none : (s : ℕ) → s < state_count t.variables → is_none (look s) ≡ true → get_or (distances t) s none ≡ none
  entry_none s h e =
      split_option (get_or (distances t) s none) (λ n. n)
      (λ x q. clash e (near_some (look s) (within_near 0 (look s) (entry_within s x h q))))

  entry_some : (s : ℕ) → s < state_count t.variables → is_none (look s) ≡ false → get_or (distances t) s none ≡ some (entry_total (look s))
  entry_some s h = some_distance (look s) (get_or (distances t) s none) (entries_are s h)

  pub entry_low : (s : ℕ) → s < state_count t.variables → is_none (look s) ≡ false → Low (look s)
  entry_low s h e = within_low 0 (look s) (entry_within s (entry_total (look s)) h (entry_some s h e))

  -- the entry of the start state
  module _ (s : ℕ) (e : s ≡ start_number t) where
    below : s < state_count t.variables
    below = omega (arith, start_below t valid)

    pub start_none : is_none (look s) ≡ true → first_plan t ≡ none
    start_none far = first_plan_none t (ap (λ (n : ℕ). get_or (distances t) n none) (sym e) ∙ entry_none s below far)

    pub start_distance : is_none (look s) ≡ false → get_or (distances t) (start_number t) none ≡ some (entry_total (look s))
    start_distance near = ap (λ (n : ℕ). get_or (distances t) n none) (sym e) ∙ entry_some s below near
