use Rattle.std.proofs.Common.{arith, ◌∙◌}
use Rattle.distances.proofs.EntryLaws.{less_read}
use Rattle.distances.proofs.Picking.{lesser_first, lesser_second, lesser_less, lesser_keep}
use Rattle.distances.proofs.selection.lesser.Goals as goal
use Rattle.distances.proofs.selection.lesser.Goals.{then-first-entries-via-then-first-entries, then-first-entries-via-else-first-entries+then-is_less}

pub returns-then-second-entries : goal.returns-then-second-entries
returns-then-second-entries c = lesser_first _ _ _ _ c.if-second-entries.true

pub returns-then-first-entries : goal.returns-then-first-entries
returns-then-first-entries c =
    elim c.then-first-entries.branch [
      | then-first-entries-via-then-first-entries w ↦ lesser_second _ _ _ _ c.if-second-entries.false w.if-first-entries.true
      | then-first-entries-via-else-first-entries+then-is_less w ↦
          lesser_less _ _ _ _ c.if-second-entries.false w.if-first-entries.false (less_read _ _ _ _ _ _ (omega arith) (omega arith) w.is_less.ensures ∙ w.if-is_less.true)
    ]

pub returns : goal.returns
returns c = lesser_keep _ _ _ _ c.if-second-entries.false c.if-first-entries.false (less_read _ _ _ _ _ _ (omega arith) (omega arith) c.is_less.ensures ∙ c.if-is_less.false)
