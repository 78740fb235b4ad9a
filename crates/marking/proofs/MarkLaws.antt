-- The answer of marking and its buffers: refused for want of room, or done with the bytes of the last round's marks.
use Prim.Native.Nat.{ℕ, zero, suc, ◌+◌, ◌*◌, ◌≤◌, ◌<◌}
use mathlib.Core.Path.{◌≡◌, refl, sym, ap, ap₂, ◌∙◌}
use mathlib.Core.Bool.{false}
use mathlib.Core.List.{List, map, ◌++◌}
use native.Mathlib.Omega.{arith}
use lib.ListN.{length, get_or, length-map}
use Rattle.files.specs.Below.{tabulate, bit, join_below, sum_below, sum_of}
use Rattle.files.specs.Bytes.{placed}
use Rattle.files.specs.Dense.{held}
use Rattle.files.specs.declared.arrays.Arrays.{Arrays}
use Rattle.files.specs.Outcome.{overwrite}
use Rattle.files.specs.Task.{variable_count, action_count, fact_count, size_of}
use Rattle.files.proofs.BelowLaws.{map_entry}
use Rattle.files.proofs.Placed.{placed_overwrite}
use Rattle.files.proofs.Tabulate.{tabulate_from_length, tabulate_is}
use Rattle.files.proofs.Valid.{Valid}
use Rattle.marking.specs.Marks.{Marks}
use Rattle.marking.specs.Rounds.{next_actions, marking}
use Rattle.marking.specs.Mark.{action_marks_of, fact_mark, fact_marks_of}
use Rattle.marking.specs.Dense.{fact_byte, fact_bytes, Final}
use Rattle.files.proofs.HeldTask.{variables_held, actions_held, size_held}
use Rattle.marking.proofs.MarkTables.{tabulate_same}
use Rattle.marking.proofs.ResultLaws.{joined_length}
use Rattle.marking.proofs.RoundBound.{marking_fixed}
use Rattle.marking.proofs.RoundCount.{sum_alike}
use Rattle.marking.proofs.RoundLaws.{round_actions}

-- the bytes that are written
joined_same : (n : ℕ) (f g : ℕ → List ℕ) → ((v : ℕ) → v < n → f v ≡ g v) → join_below n f ≡ join_below n g
joined_same zero f g h = refl
joined_same (suc n) f g h = ap₂ ◌++◌ (joined_same n f g (λ v l. h v (omega arith))) (h n (omega arith))

module _ (d : Arrays) (ok : Valid (held d)) (level : ℕ) where
  -- the number of facts is the sum of the sizes
  pub facts_held : sum_of d.sizes d.variables ≡ fact_count (held d)
  unfolding sum_of
  facts_held =
      sum_alike d.variables (λ v. get_or d.sizes v 0) (size_of (held d)) (λ v l. sym (size_held d v l))
      ∙ ap (λ (n : ℕ). sum_below n (size_of (held d))) (sym (variables_held d))

  abbrev m : Marks
  m = (marking (held d) level).marks

  pub actions_long : length m.actions ≡ action_count (held d)
  unfolding next_actions
  actions_long =
      ap length (sym (ap (λ (k : Marks). k.actions) (marking_fixed (held d) level ok).same) ∙ round_actions (held d) level m)
      ∙ tabulate_from_length _ 0 (action_count (held d))

  module _ (actions facts unlinked : List ℕ) (rounds : ℕ) (f : Final (held d) level actions facts unlinked rounds) where
    pub action_bytes_lem : tabulate d.actions (λ a. get_or actions a 0) ≡ action_marks_of (held d) level
    unfolding action_marks_of
    action_bytes_lem =
        tabulate_is (λ a. get_or actions a 0) d.actions (map bit m.actions) 0 (length-map m.actions bit ∙ actions_long ∙ actions_held d)
        (λ a l.
        let known : a < action_count (held d) = omega (arith, actions_held d) in
        f.action a known ∙ sym (map_entry bit m.actions a 0 false (omega (arith, actions_long))))

    pub fact_bytes_lem : join_below d.variables (λ v. fact_bytes facts unlinked v (get_or d.sizes v 0)) ≡ fact_marks_of (held d) level
    unfolding fact_marks_of fact_bytes
    fact_bytes_lem =
        joined_same d.variables (λ v. tabulate (get_or d.sizes v 0) (λ e. fact_byte (get_or facts (32 * v + e) 0) (get_or unlinked (32 * v + e) 0))) (λ v. tabulate (size_of (held d) v) (fact_mark (held d) level m v))
        (λ v l.
        let known : v < variable_count (held d) = omega (arith, variables_held d) in
        ap (λ (n : ℕ). tabulate n (λ e. fact_byte (get_or facts (32 * v + e) 0) (get_or unlinked (32 * v + e) 0))) (sym (size_held d v l))
        ∙ tabulate_same (λ e. fact_byte (get_or facts (32 * v + e) 0) (get_or unlinked (32 * v + e) 0)) (fact_mark (held d) level m v) (size_of (held d) v) 0 (λ e k. f.fact v e known k))
        ∙ ap (λ (n : ℕ). join_below n (λ v. tabulate (size_of (held d) v) (fact_mark (held d) level m v))) (sym (variables_held d))

  pub action_marks_long : length (action_marks_of (held d) level) ≡ action_count (held d)
  unfolding action_marks_of
  action_marks_long = length-map m.actions bit ∙ actions_long

  fact_marks_long : length (fact_marks_of (held d) level) ≡ fact_count (held d)
  unfolding fact_marks_of
  fact_marks_long = joined_length (λ v. tabulate (size_of (held d) v) (fact_mark (held d) level m v)) (size_of (held d)) (variable_count (held d)) (λ v. tabulate_from_length (fact_mark (held d) level m v) 0 (size_of (held d) v))

  -- a buffer that is long enough holds its bytes
  module _ (old new : List ℕ) where
    pub actions_written : action_count (held d) ≤ length old → (bytes : List ℕ) → bytes ≡ action_marks_of (held d) level → new ≡ placed old 0 bytes → new ≡ overwrite old (action_marks_of (held d) level)
    actions_written h bytes b e = e ∙ ap (placed old 0) b ∙ placed_overwrite old (action_marks_of (held d) level) (omega (arith, action_marks_long))

    pub facts_written : fact_count (held d) ≤ length old → (bytes : List ℕ) → bytes ≡ fact_marks_of (held d) level → new ≡ placed old 0 bytes → new ≡ overwrite old (fact_marks_of (held d) level)
    facts_written h bytes b e = e ∙ ap (placed old 0) b ∙ placed_overwrite old (fact_marks_of (held d) level) (omega (arith, fact_marks_long))
