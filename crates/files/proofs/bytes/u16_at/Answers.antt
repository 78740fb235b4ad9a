-- Two bytes, each below 256, put together as the definition does; past the end both are 0.
use borrow.Author.Rules.{rules}
use Rattle.files.specs.Bytes.{u16_at}
use Rattle.files.proofs.Stands.{u16_past}
use Rattle.files.proofs.bytes.u16_at.Goals as goal

pub returns-then-s-at : goal.returns-then-s-at
returns-then-s-at c = search (rules, u16_past)

pub returns : goal.returns
unfolding u16_at
returns c = search rules
