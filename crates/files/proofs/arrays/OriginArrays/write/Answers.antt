-- Variable origins, the head and the numbers of the action origins, and the sign-off stand one behind the other.
use Rattle.std.proofs.Common.{arith, rules}
use mathlib.Core.Path.{◌∙◌}
use Rattle.files.specs.Dense.{held_origin}
use Rattle.files.specs.Lengths.{origin_needed}
use Rattle.files.specs.OriginFile.{origin_file}
use Rattle.files.proofs.Placed.{placed_overwrite}
use Rattle.files.proofs.Lengths.{origin_file_length}
use Rattle.files.proofs.WritingOrigins.{placed_origins}
use Rattle.files.proofs.arrays.OriginArrays.write.Goals as goal

pub put_variables-at-requires : goal.put_variables-at-requires
unfolding origin_needed
put_variables-at-requires c = record { source = c.requires.source; room = omega arith }

pub put_head-requires : goal.put_head-requires
unfolding origin_needed
put_head-requires c = omega arith

pub overflow_add-at : goal.overflow_add-at
unfolding origin_needed
overflow_add-at c = omega arith

pub put_originals-requires : goal.put_originals-requires
unfolding origin_needed
put_originals-requires c = search rules

pub overflow_add-at-2 : goal.overflow_add-at-2
unfolding origin_needed
overflow_add-at-2 c = omega arith

pub overflow_add-at-3 : goal.overflow_add-at-3
unfolding origin_needed
overflow_add-at-3 c = omega arith

pub put_sign_off-requires : goal.put_sign_off-requires
unfolding origin_needed
put_sign_off-requires c = omega arith

pub returns : goal.returns
returns c =
    let d = c.args.self.now in
    placed_origins d c.args.signer _ _ _ _ _ _
    c.put_variables-at.ensures.written
    c.put_variables-at.ensures.ends
    c.put_head.ensures
    c.put_originals.ensures
    c.put_sign_off.ensures
    ∙ placed_overwrite c.args.buffer.now (origin_file (held_origin d) c.args.signer) (rw (origin_file_length d c.args.signer) c.requires.room)
