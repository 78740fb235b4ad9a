-- The part that is filled has `count` bytes.
use Rattle.digits.proofs.PutLaws.{blanks_put}
use Rattle.digits.proofs.columns.put_blanks.Goals as goal

pub returns : goal.returns
returns c = blanks_put _ _ _ _ c.requires (c.fill.ensures.after (λ y e. e))
