-- What the arrays hold before each round: marks, and what earlier rounds have looked at.
use Prim.Native.Nat.{ℕ, ◌+◌, ◌*◌, ◌≤◌, ◌<◌}
use mathlib.Core.Path.{◌≡◌}
use mathlib.Core.Bool.{true, false}
use mathlib.Core.List.{List}
use lib.Dec.{eqb}
use lib.ListN.{length, get_or}
use Rattle.files.specs.Below.{bit}
use Rattle.files.specs.Dense.{held}
use Rattle.files.specs.declared.arrays.Arrays.{Arrays}
use Rattle.files.specs.Task.{action_of, size_of}
use Rattle.marking.specs.Marks.{names}
use Rattle.marking.specs.Links.{threatened, unlinked}
use Rattle.marking.specs.Dense.{is_marked}
use Rattle.marking.proofs.HeldMarks.{held_marks}
use Rattle.files.proofs.HeldTask.{effect_at}

-- actions and facts are the marks; of the actions in `noted` the threats are marked, of those in `named` the conditions are
-- among the facts, and of the facts in `before` the actions that achieve them are kept
pub record Progress (d : Arrays) (level : ℕ) (actions facts unlinked_before threats kept_before counted_before : List ℕ) : Type 0 where
  pub actions_long : length actions ≡ 512
  pub facts_long : length facts ≡ 2048
  pub threats_long : length threats ≡ 64
  pub action_bit : (a : ℕ) → a < d.actions → get_or actions a 0 ≤ 1
  pub fact_bit : (i : ℕ) → i < 2048 → get_or facts i 0 ≤ 1
  pub fact_known : (v e : ℕ) → v < 64 → e < 32 → is_marked facts (32 * v + e) ≡ true → (v < d.variables) × (e < size_of (held d) v)
  pub kept_before_bit : (a : ℕ) → a < d.actions → get_or kept_before a 0 ≤ 1
  pub kept_before_stays : (a : ℕ) → a < d.actions → is_marked kept_before a ≡ true → is_marked actions a ≡ true
  pub threat : (v : ℕ) → v < d.variables → get_or threats v 0 ≡ bit (threatened (held d) (is_marked kept_before) v)
  pub before_bit : (v e : ℕ) → v < d.variables → e < 32 → get_or unlinked_before (32 * v + e) 0 ≤ 1
  pub before_unlinked : (v e : ℕ) → v < d.variables → e < 32 → is_marked unlinked_before (32 * v + e) ≡ true → unlinked (held d) level (held_marks (held d) actions facts) v e ≡ true
  pub before_kept : (a v : ℕ) → a < d.actions → v < d.variables → eqb (effect_at d a v) 255 ≡ false → is_marked unlinked_before (32 * v + effect_at d a v) ≡ true → is_marked actions a ≡ true
  pub counted_before_bit : (a : ℕ) → a < d.actions → get_or counted_before a 0 ≤ 1
  pub counted_before_kept : (a : ℕ) → a < d.actions → is_marked counted_before a ≡ true → is_marked actions a ≡ true
  pub counted_before_facts : (a : ℕ) → a < d.actions → is_marked counted_before a ≡ true → (v e : ℕ) → v < d.variables → e < size_of (held d) v → names level (action_of (held d) a).conditions v e ≡ true → is_marked facts (32 * v + e) ≡ true
  -- at level 1 variables count whole
  pub whole : level ≡ 1 → (v x y : ℕ) → v < d.variables → x < size_of (held d) v → y < size_of (held d) v → is_marked facts (32 * v + x) ≡ true → is_marked facts (32 * v + y) ≡ true
