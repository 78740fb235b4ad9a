-- The states at which the goal holds are offered the entry of no steps, all others have none.
use Rattle.std.proofs.Common.{arith, ◌≡◌, ℕ, length, replicate, sym, ap, subst, ◌∙◌}
use Rattle.distances.specs.Entries.{no_entry, is_none}
use Rattle.distances.specs.Selecting.{Fresh}
use Rattle.distances.specs.declared.Entry.{Entry}
use Rattle.distances.proofs.Begun.{Cleared, cleared, fresh_selecting, weights_few, goal_below, goal_zero, goal_entries, first_near}
use Rattle.distances.proofs.table.begin.Goals as goal

pub number-at-requires : goal.number-at-requires
number-at-requires c =
    let numbered = c.args.tables.now.are_of.numbered in
    record { variables_few = numbered.variables_few; weights_few = weights_few _ _ _ _ c.args.tables.now.task.now.goal numbered c.requires.goal }

pub offer-requires-clause-selecting : goal.offer-requires-clause-selecting
offer-requires-clause-selecting c =
    let filled : c.fill.new.self ≡ replicate (length c.args.entries.now) no_entry = c.fill.ensures.after (λ y e. e) ∙ ap (replicate (length c.args.entries.now)) c.none.ensures in
    fresh_selecting _ _ (subst (λ (n : ℕ). Fresh n c.args.selection.now) (sym c.fill.ensures.len) c.requires.fresh) (omega (arith, c.fill.ensures.len, c.requires.states, c.args.tables.now.are_of.numbered.few))
    (subst Cleared (sym filled) (cleared _))

pub offer-requires-clause-near : goal.offer-requires-clause-near
offer-requires-clause-near c = subst (λ (e : Entry). is_none e ≡ _) (sym c.at_goal.ensures) first_near

pub offer-requires-clause-from : goal.offer-requires-clause-from
offer-requires-clause-from c =
    let numbered = c.args.tables.now.are_of.numbered in
    let number = c.number-at.ensures _ numbered.weights_are in
    record {
      start = omega arith;
      below = goal_below _ _ _ _ _ numbered c.requires.goal _ _ number c.free-free.ensures;
      zero = λ v k. goal_zero _ _ _ _ _ numbered c.requires.goal _ _ number c.free-free.ensures v;
    }

pub returns : goal.returns
returns c =
    let numbered = c.args.tables.now.are_of.numbered in
    let filled : c.fill.new.self ≡ replicate (length c.args.entries.now) no_entry = c.fill.ensures.after (λ y e. e) ∙ ap (replicate (length c.args.entries.now)) c.none.ensures in
    let number = c.number-at.ensures _ numbered.weights_are in
    record {
      first =
          λ s l.
          goal_entries _ _ _ _ _ numbered c.requires.goal _ _ number c.free-free.ensures _ _ _ _ _ c.at_goal.ensures (subst Cleared (sym filled) (cleared _)) c.offer.ensures c.args.tables.now.task.now.starts s
          (omega (arith, c.offer.auto.entries));
      settled_is = c.offer.ensures.settled_is;
      selecting = c.offer.ensures.selecting;
    }
