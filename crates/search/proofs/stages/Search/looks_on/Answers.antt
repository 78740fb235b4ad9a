-- Not behind the last action, and not where the state has its entry by way of this one.
use Rattle.search.specs.ReadOff.{searched_of}
use Rattle.search.proofs.Leading.{looks_end, looks_further}
use Rattle.search.proofs.stages.Search.looks_on.Goals as goal

pub returns-then-self-action : goal.returns-then-self-action
returns-then-self-action c = looks_end (searched_of c.args.self.now) c.args.step _ c.args.self.now.task.costs _ c.if-self-action.true

pub returns : goal.returns
returns c = looks_further (searched_of c.args.self.now) c.args.step _ c.args.self.now.task.costs _ c.if-self-action.false _ c.has_by.ensures
