-- The line feed behind the line.
use mathlib.Core.Path.{refl}
use Prim.Native.Nat.{◌<◌}
use lib.ListN.{length}
use borrow.Author.Rules.{rules}
use Rattle.translator.proofs.Calls.{handed}
use Rattle.translator.proofs.CursorLaws.{go, stop, byte_within, name_open}
use Rattle.translator.proofs.fields.Text.name.Goals as goal

pub returns-in_err-byte_due-clause-read : goal.returns-in_err-byte_due-clause-read
returns-in_err-byte_due-clause-read c = rw (handed _ _ c.from_residual.ensures.1) (name_open _ _ _ _ _ refl c.line_end-end.ensures c.in_err-byte_due.ensures (stop _ _))

pub overflow_add-self : goal.overflow_add-self
overflow_add-self c = let within : c.line_end-end.result < length c.args.self.now.bytes.now = byte_within _ _ _ _ c.in_ok-byte_due.ensures refl in search rules

pub invariant_of-self : goal.invariant_of-self
invariant_of-self c =
    let within : c.line_end-end.result < length c.args.self.now.bytes.now = byte_within _ _ _ _ c.in_ok-byte_due.ensures refl in
    record { limited = c.args.self.now.limited; within = search rules }

pub returns-clause-read : goal.returns-clause-read
returns-clause-read c = name_open _ _ _ _ _ refl c.line_end-end.ensures c.in_ok-byte_due.ensures (go _)
