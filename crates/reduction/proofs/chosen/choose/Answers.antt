-- The calls in turn copy the costs and the rows of the chosen actions.
use mathlib.Core.Path.{refl}
use Rattle.reduction.proofs.ChosenHeld.{struck_held}
use Rattle.reduction.proofs.chosen.choose.Goals as goal

pub returns : goal.returns
returns c =
    record {
      variables = refl;
      actions = refl;
      sizes = refl;
      task = λ R few are. struck_held c.args.from.now c.args.chosen.now c.args.count R are _ _ _ few c.map_actions.ensures c.copy_rows.ensures c.copy_rows-2.ensures;
    }
