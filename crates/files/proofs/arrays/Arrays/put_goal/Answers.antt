-- The head states 4 bytes for each pair, and the pairs stand behind it.
use native.Mathlib.Omega.{arith}
use Rattle.files.specs.Dense.{row_pairs}
use Rattle.files.proofs.Lengths.{pair_bytes_length}
use Rattle.files.proofs.Writing.{placed_record}
use Rattle.files.proofs.arrays.Arrays.put_goal.Goals as goal

pub returns : goal.returns
returns c =
    let args = c.args in
    record {
      written =
          placed_record _ _ _ _ _ _ _ c.put_head.ensures (omega (arith, pair_bytes_length (row_pairs args.self.now.goal 0 0 args.self.now.variables))) c.put_pairs.ensures.written;
      ends = c.put_pairs.ensures.ends;
    }
