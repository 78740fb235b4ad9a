use Rattle.std.proofs.Common.{subst}
use Rattle.distances.specs.Bounds.{Greater}
use Rattle.distances.specs.declared.Entry.{Entry}
use Rattle.distances.proofs.EntryLaws.{entry_read}
use Rattle.distances.proofs.BoundLaws.{above_next}
use Rattle.distances.proofs.bounds.greatest.Goals as goal

pub loop-entry-preserved : goal.loop-entry-preserved
loop-entry-preserved c =
    above_next c.args.entries.now _ _ _ c.loop-entry.invariant (subst (λ (e : Entry). Greater c.loop-entry.most e c.greater-most.result) (entry_read _ _ _ c.loop-entry-test.true) c.greater-most.ensures)
