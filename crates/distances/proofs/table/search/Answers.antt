use Rattle.std.proofs.Common.{arith, ◌∙◌}
use Rattle.distances.proofs.HeldStates.{held_states, held_start, held_goal, held_actions_few, held_facts, tables_of, start_inside}
use Rattle.distances.proofs.Searching.{begin, fewer, low, next, end}
use Rattle.distances.proofs.table.search.Goals as goal

pub fill-requires : goal.fill-requires
fill-requires c =
    record {
      few = held_facts c.args.task.now c.requires.accepted (omega (arith, c.requires.states)) _ (omega (arith, c.args.rows.now.long));
      actions_few = held_actions_few c.args.task.now c.requires.accepted;
    }

pub invariant_of-tables : goal.invariant_of-tables
invariant_of-tables c =
    record { are_of = tables_of c.args.task.now c.requires.accepted (omega (arith, c.requires.states)) _ _ _ c.requires.weights_are c.fill.ensures (omega (arith, c.fill.new.self.long)) c.requires.moves_are }

pub begin-requires-clause-states : goal.begin-requires-clause-states
begin-requires-clause-states c = c.requires.states ∙ held_states c.args.task.now

pub begin-requires-clause-goal : goal.begin-requires-clause-goal
begin-requires-clause-goal c = held_goal c.args.task.now c.requires.accepted

pub loop-s-init : goal.loop-s-init
loop-s-init c =
    let first = c.begin.ensures in (
      begin c.args.task.now _ c.requires.accepted (c.begin.auto.entries ∙ c.requires.states) (omega (arith, c.begin.auto.entries)) first.first _ (first.settled_is ∙ c.new-selection.ensures.settled_is) _ c.next-s.ensures,
      first.selecting,
      c.greatest-bound.ensures,
    )

pub round-s-requires-clause-states : goal.round-s-requires-clause-states
round-s-requires-clause-states c = c.loop-s.invariant.0.states ∙ held_states c.args.task.now

pub round-s-requires-clause-low : goal.round-s-requires-clause-low
round-s-requires-clause-low c = low c.args.task.now _ _ _ c.loop-s.invariant.0 c.loop-s-test.true

pub loop-s-smaller : goal.loop-s-smaller
loop-s-smaller c = omega (arith, fewer c.args.task.now _ _ _ c.loop-s.invariant.0 c.loop-s-test.true _ c.round-s.ensures.settled_is)

pub loop-s-preserved : goal.loop-s-preserved
loop-s-preserved c =
    let round = c.round-s.ensures in
    (next c.args.task.now _ _ _ c.loop-s.invariant.0 c.loop-s-test.true _ c.round-s.auto.entries round.offers _ _ round.settled_is round.picked, round.selecting, round.above)

pub start_number-requires : goal.start_number-requires
start_number-requires c = start_inside c.args.task.now c.requires.accepted (omega (arith, c.requires.states))

pub returns : goal.returns
returns c = record { start = held_start c.args.task.now _ c.start_number.ensures; table = end c.args.task.now _ _ _ c.loop-s.invariant.0 c.loop-s-test.false }
