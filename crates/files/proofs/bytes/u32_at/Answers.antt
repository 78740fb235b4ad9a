-- A number of two bytes and two bytes more, put together as the definition does; past the end all are 0.
use borrow.Author.Rules.{rules}
use Rattle.files.specs.Bytes.{u32_at}
use Rattle.files.proofs.Stands.{u32_past}
use Rattle.files.proofs.bytes.u32_at.Goals as goal

pub returns-then-s-at : goal.returns-then-s-at
returns-then-s-at c = search (rules, u32_past)

pub returns : goal.returns
unfolding u32_at
returns c = search rules
