-- Blanks for what the number leaves of the width, and the digits behind them.
use Rattle.digits.proofs.PutLaws.{column_put}
use Rattle.digits.proofs.groups.put_column.Goals as goal

pub returns : goal.returns
returns g c =
    let args = c.args in
    let blanks = c.put_blanks in
    let places = c.places-count in
    let digits = c.put_digits in
    column_put args.buffer.now blanks.new.buffer digits.new.buffer args.at args.width places.result args.n places.ensures blanks.ensures digits.ensures
