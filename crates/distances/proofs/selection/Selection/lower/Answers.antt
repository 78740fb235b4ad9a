use Rattle.std.proofs.Common.{arith, ◌≡◌, refl, sym, ap, ◌∙◌}
use Rattle.distances.specs.Entries.{less_entry, table_entry}
use Rattle.distances.proofs.Blocks.{lowered_open, lowered_closed}
use Rattle.distances.proofs.EntryLaws.{entry_read, entry_put, lower_yes, lower_no}
use Rattle.distances.proofs.selection.Selection.lower.Goals as goal

pub returns-then-not-self-state : goal.returns-then-not-self-state
returns-then-not-self-state c =
    let below = c.requires.below in
    let less : c.is_less.result ≡ less_entry c.args.entry (table_entry c.args.entries.now c.args.state) = c.is_less.ensures ∙ ap (less_entry c.args.entry) (entry_read _ _ _ below) in
    record {
      offered = lower_yes _ _ c.args.entry _ less _ c.if-is_less.true (entry_put _ _ c.args.entry below) _;
      settled_is = refl;
      selecting =
          lowered_open _ _ c.args.state _ c.requires.selecting below c.requires.near (sym less ∙ c.if-is_less.true) (omega arith) c.if-not-self-state.true _ c.lesser.ensures;
    }

pub returns-else-not-self-state : goal.returns-else-not-self-state
returns-else-not-self-state c =
    let below = c.requires.below in
    let less : c.is_less.result ≡ less_entry c.args.entry (table_entry c.args.entries.now c.args.state) = c.is_less.ensures ∙ ap (less_entry c.args.entry) (entry_read _ _ _ below) in
    record {
      offered = lower_yes _ _ c.args.entry _ less _ c.if-is_less.true (entry_put _ _ c.args.entry below) _;
      settled_is = refl;
      selecting = lowered_closed _ _ c.args.state c.args.entry c.requires.selecting below c.requires.near (sym less ∙ c.if-is_less.true) (omega arith) c.if-not-self-state.false;
    }

pub returns-else-is_less : goal.returns-else-is_less
returns-else-is_less c =
    let less : c.is_less.result ≡ less_entry c.args.entry (table_entry c.args.entries.now c.args.state) = c.is_less.ensures ∙ ap (less_entry c.args.entry) (entry_read _ _ _ c.requires.below) in
    record {
      offered = lower_no _ _ c.args.entry _ less c.if-is_less.false _;
      settled_is = refl;
      selecting = c.requires.selecting;
    }
