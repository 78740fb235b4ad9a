-- Entries of the work table: their order, one step more, none; and the table as a list of entries.
use Rattle.std.specs.Prelude.{ℕ, ◌≤◌, ◌<◌, Bool, true, false, not, cond, ◌&&◌, List, eqb, length, get_or}
use Rattle.std.proofs.Math.Option.{none, some}
use Rattle.files.specs.Below.{tabulate}
use Rattle.files.specs.Task.{Action}
use Rattle.plans.specs.Plan.{Total, no_steps, add_step, at_most}
use Rattle.distances.specs.Table.{entry, minutes_of, steps_of, entry_of}
use Rattle.distances.specs.declared.Entry.{Entry}

-- the entry of none, and whether an entry is that
abbrev pub no_entry : Entry
no_entry = entry_of none

unfoldable pub is_none : Entry → Bool
is_none e = eqb (minutes_of e) (minutes_of no_entry)

-- the entry of a state before any step: nothing where the goal holds, else none
abbrev pub first_entry : Bool → Entry
first_entry true = entry_of (some no_steps)
first_entry false = no_entry

-- cost and steps of an entry
abbrev pub entry_total : Entry → Total
entry_total e = record { minutes = minutes_of e; steps = steps_of e }

-- the order on entries as numbers: that of none is above those of every plan
unfoldable pub less_entry : Entry → Entry → Bool
less_entry x y = not (at_most (entry_total y) (entry_total x))

-- entries that are alike
unfoldable pub same_entry : Entry → Entry → Bool
same_entry x y = not (less_entry x y) && not (less_entry y x)

-- the entry y where x is offered
unfoldable pub lowered : Entry → Entry → Entry
lowered x y = cond (less_entry x y) x y

-- with one step more in front
unfoldable pub after_step : Action → Entry → Entry
after_step a e = let x = add_step a (entry_total e) in entry x.minutes x.steps

-- an entry whose numbers have room for one step more
pub record Low (e : Entry) : Type 0 where
  pub minutes : minutes_of e < 18446744073000000000
  pub steps : steps_of e < 65535

-- and a step that it has room for
pub record StepOn (e : Entry) (cost : ℕ) : Type 0 where
  pub low : Low e
  pub cost_most : cost ≤ 1000000

-- the entry of a state in a table, that of none past its end, and the entries of the first `count` states
unfoldable pub table_entry : List Entry → ℕ → Entry
table_entry table s = get_or table s no_entry

unfoldable pub entries_in : List Entry → ℕ → List Entry
entries_in table count = tabulate count (table_entry table)

-- a table with room for the entries of `count` states
pub record CanFill (table entries : List Entry) (count : ℕ) : Type 0 where
  pub long : count ≤ length table
  pub room : count ≤ length entries
