-- The state alone is a stretch of its own.
use Rattle.std.proofs.Common.{arith, refl, sym, ap, subst, ◌∙◌}
use native.Mathlib.Nat.{le_of_lt}
use Rattle.files.proofs.Logic.{clash}
use Rattle.distances.specs.Entries.{is_none}
use Rattle.distances.specs.Settling.{Picked}
use Rattle.distances.proofs.EntryLaws.{entry_read}
use Rattle.distances.proofs.Picking.{pick_one, pick_not, join_first, join_lesser, lesser_most}
use Rattle.distances.proofs.selection.Selection.better.Goals as goal
use Rattle.distances.proofs.selection.Selection.better.Goals.{then-self-s-via-then-self-s, then-self-s-via-else-self-s+then-is_none}

pub returns-then-self-s : goal.returns-then-self-s
returns-then-self-s c =
    elim c.then-self-s.branch [
      | then-self-s-via-then-self-s w ↦
          record { range = c.requires.most; picks = λ from h p. join_first _ _ _ from _ _ _ _ h (omega arith) p (pick_not _ _ _ _ (λ z k. clash w.if-self-s.true z)) refl }
      | then-self-s-via-else-self-s+then-is_none w ↦
          let none = ap is_none (sym (entry_read _ _ _ c.requires.below)) ∙ sym w.is_none.ensures ∙ w.if-is_none.true in
          record { range = c.requires.most; picks = λ from h p. join_first _ _ _ from _ _ _ _ h (omega arith) p (pick_not _ _ _ _ (λ z k. clash none k)) refl }
    ]

pub returns : goal.returns
returns c =
    let some = ap is_none (sym (entry_read _ _ _ c.requires.below)) ∙ sym c.is_none.ensures ∙ c.if-is_none.false in
    record {
      range = omega (arith, c.lesser.ensures, lesser_most c.args.entries.now _ _ _ c.requires.most (le_of_lt c.requires.below));
      picks =
          λ from h p.
          subst (Picked _ _ _ from _) (sym c.lesser.ensures)
          (join_lesser _ _ _ from _ _ _ _ h (omega arith) p (pick_one _ _ _ _ c.requires.below c.if-self-s.false some) c.requires.most (le_of_lt c.requires.below));
    }
