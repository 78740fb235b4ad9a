-- The loop's invariant: the action is in the sets of its conditions before `v`, and the count is that of these sets.
use Prim.Native.Nat.{◌*◌, ◌≤◌}
use mathlib.Core.Path.{◌≡◌}
use Rattle.reduction.specs.ReachDense.{row_facts, asked, Asking}
use Rattle.reduction.proofs.reach.ask_row.Given as goal

abbrev pub invariant-loop-v : goal.invariant-loop-v
invariant-loop-v l =
    Asking (row_facts l.task.conditions (64 * l.a) l.v) l.a l.initial.rows l.rows × (l.count ≡ asked l.rows l.a) × (l.count ≤ l.v)
