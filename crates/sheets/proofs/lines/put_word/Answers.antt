-- The part that is copied over has as many letters.
use Rattle.std.proofs.Common.{arith}
use Rattle.sheets.proofs.LineLaws.{word_written}
use Rattle.sheets.proofs.lines.put_word.Goals as goal

pub returns : goal.returns
returns c = word_written _ _ _ _ (omega arith) c.requires c.copy_from_slice.ensures.after
