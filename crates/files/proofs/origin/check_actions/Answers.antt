use Rattle.files.proofs.Steps.{action_origins_none, action_origins_fall, action_origins_stop, action_origins_next}
use Rattle.files.proofs.origin.check_actions.Goals as goal

pub returns-then-action-at_least : goal.returns-then-action-at_least
returns-then-action-at_least c = search action_origins_fall

pub returns-then-action-ge-MOST_ACTIONS : goal.returns-then-action-ge-MOST_ACTIONS
returns-then-action-ge-MOST_ACTIONS c = search action_origins_stop

pub loop-i-preserved : goal.loop-i-preserved
loop-i-preserved c = search action_origins_next

pub returns : goal.returns
returns c = search action_origins_none
