-- Where the entry is not less than the bound, it lowers none.
use Rattle.std.proofs.Common.{refl, sym, ◌∙◌}
use Rattle.distances.specs.Offers.{differs_from, free_of, number_before}
use Rattle.distances.proofs.BoundLaws.{offers_none}
use Rattle.distances.proofs.tables.Tables.offer_action.Goals as goal

pub returns-else-is_less : goal.returns-else-is_less
returns-else-is_less c =
    let d = c.args.self.now.task.now in
    let moves = c.args.self.now.moves.now.actions in
    record {
      offered = offers_none (differs_from d.sizes d.variables (free_of moves c.args.a) 0 (number_before moves c.args.a c.args.x)) _ _ c.args.entries.now _ c.requires.above (sym c.is_less.ensures ∙ c.if-is_less.false);
      settled_is = refl;
      selecting = c.requires.selecting;
    }
