-- As many cells of the row have a pair as the row has pairs.
use Rattle.std.proofs.Common.{◌≡◌, ◌+◌, ◌-◌, length, take, drop, count_by, arith, rules}
use native.Mathlib.Nat.{add-zero}
use mathlib.Core.Path.{ap₂, ◌∙◌}
use lib.ListN.{length-take}
use Rattle.std.proofs.lemmas.List.Sums.{count_by-le-length}
use Rattle.files.specs.Dense.{row_pairs}
use Rattle.files.proofs.RowLaws.{has_pair, row_pairs_counted}
use Rattle.files.proofs.write.pairs_in.Goals as goal

pub returns : goal.returns
returns c =
    let rows = c.args.rows.now in
    let row = take (c.args.base + c.args.count - c.args.base) (drop c.args.base rows) in
    let long : c.args.count ≡ c.args.base + c.args.count - c.args.base = omega arith in
    let counted : c.count.result ≡ count_by has_pair row = search rules in
    let pairs : length (row_pairs rows c.args.base 0 c.args.count) ≡ count_by has_pair row =
    row_pairs_counted rows c.args.base 0 c.args.count (omega arith) ∙ ap₂ (λ m n. count_by has_pair (take m (drop n rows))) long (add-zero c.args.base) in
    record {
      is = omega (arith, counted, pairs);
      at_most = omega (arith, counted, count_by-le-length has_pair row, length-take (c.args.base + c.args.count - c.args.base) (drop c.args.base rows));
    }
