use Rattle.distances.proofs.EntryLaws.{step_is}
use Rattle.distances.proofs.Entry.after_step.Goals as goal

pub returns : goal.returns
returns c = λ a e. step_is a _ _ e
