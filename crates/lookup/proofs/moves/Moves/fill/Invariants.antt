-- The loop's invariant: the moves of the actions before `a` are there.
use mathlib.Core.Path.{◌≡◌}
use mathlib.Core.List.{List}
use Prim.Native.Nat.{ℕ}
use lib.ListN.{length}
use Rattle.lookup.specs.Moves.{WeightsOf, MovesIn}
use Rattle.lookup.proofs.moves.Moves.fill.Given as goal

abbrev pub invariant-loop-a : goal.invariant-loop-a
invariant-loop-a l =
    record {
      long : length l.self.actions ≡ 512;
      filled : (sizes : List ℕ) → WeightsOf l.task.variables sizes l.weights → MovesIn l.task.variables l.a sizes l.task.conditions l.task.effects l.self.actions;
    }
