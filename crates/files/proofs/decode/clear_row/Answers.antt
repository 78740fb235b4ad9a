use Rattle.std.proofs.Common.{arith}
use Rattle.files.proofs.Decoding.{cleared_at_once}
use Rattle.files.proofs.decode.clear_row.Goals as goal

pub returns : goal.returns
returns c = cleared_at_once _ _ _ _ _ c.requires (omega arith) (c.fill.ensures.after (λ y h. h))
