-- Where the action is in the words: the number with what its effects add, less what it takes.
use native.Mathlib.Omega.{arith}
use Rattle.search.proofs.HereLoops.{goes_still, goes_enough, goes_further}
use Rattle.search.proofs.first_plan.Here.next_state.Goals as goal

pub overflow_sub-result : goal.overflow_sub-result
overflow_sub-result c =
    let enough = goes_enough c.args.self.now c.args.moves.now.actions _ _ _ c.has.ensures c.requires c.if-has.true in
    omega (arith, enough)

pub freed-requires : goal.freed-requires
freed-requires c =
    let enough = goes_enough c.args.self.now c.args.moves.now.actions _ _ _ c.has.ensures c.requires c.if-has.true in
    omega (arith, enough, c.requires.state_few, c.requires.set_few)

pub overflow_sub-result-then-has : goal.overflow_sub-result-then-has
overflow_sub-result-then-has c =
    let enough = goes_enough c.args.self.now c.args.moves.now.actions _ _ _ c.has.ensures c.requires c.if-has.true in
    omega (arith, enough, c.freed.ensures)

pub returns-then-has : goal.returns-then-has
returns-then-has c = goes_further c.args.self.now c.args.moves.now.actions _ _ _ c.has.ensures c.if-has.true _ c.freed.ensures

pub returns : goal.returns
returns c = goes_still c.args.self.now c.args.moves.now.actions _ _ _ c.has.ensures c.if-has.false
