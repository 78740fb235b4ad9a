use Rattle.std.proofs.Common.{arith, ◌<◌, refl, sym, ap, subst, ◌∙◌}
use Rattle.bits.specs.Sets.{in_words}
use Rattle.bits.specs.declared.sets.Numbers.{Numbers}
use Rattle.distances.specs.Entries.{after_step, Low}
use Rattle.distances.proofs.EntryLaws.{entry_read}
use Rattle.distances.proofs.SettleLoops.{values_inside, leads, step_on, step_near, can_lead, actions_begin, actions_next, actions_end}
use Rattle.distances.proofs.tables.Tables.offer_steps.Goals as goal

pub in_all-leading-requires : goal.in_all-leading-requires
in_all-leading-requires c = record { few = c.args.self.now.are_of.facts; inside = values_inside _ _ _ _ c.args.self.now.are_of _ _ c.values_of-values.ensures }

pub loop-a-init : goal.loop-a-init
loop-a-init c =
    let of = c.args.self.now.are_of in
    rw (c.into_iter-a-iterator.ensures.into_iter_gives ∙ c.numbers_in-a-items.ensures) (
      actions_begin _ _ _ _ of _ (omega arith) _ _ _ _ (leads _ _ _ _ of _ _ c.values_of-values.ensures _ c.in_all-leading.ensures.all) c.requires.selecting c.requires.above,
      refl,
      refl,
    )

pub after_step-entry-requires : goal.after_step-entry-requires
after_step-entry-requires c =
    let below : c.in-Some.a < c.args.self.now.task.now.actions = omega (arith, c.in-Some.ensures.steps.1, c.loop-a.invariant.2) in
    step_on _ _ _ _ c.args.self.now.are_of c.args.x _ below _ (subst Low (sym (entry_read _ _ _ c.requires.below)) c.requires.low)

pub offer_action-requires-clause-near : goal.offer_action-requires-clause-near
offer_action-requires-clause-near c =
    let below : c.in-Some.a < c.args.self.now.task.now.actions = omega (arith, c.in-Some.ensures.steps.1, c.loop-a.invariant.2) in
    step_near _ _ _ _ c.args.self.now.are_of c.args.x _ below _ (subst Low (sym (entry_read _ _ _ c.requires.below)) c.requires.low) _ c.after_step-entry.ensures

pub offer_action-requires-clause-leads : goal.offer_action-requires-clause-leads
offer_action-requires-clause-leads c =
    let i = c.loop-a.invariant in
    let s = c.in-Some.ensures.steps in
    let below : c.in-Some.a < c.args.self.now.task.now.actions = omega (arith, s.1, i.2) in
    can_lead _ _ _ _ c.args.self.now.are_of _ (omega arith) _ _ _ _ _ _ _ _ i.0 (rw (i.1, i.2) at s.0) below

pub loop-a-preserved : goal.loop-a-preserved
loop-a-preserved c =
    let i = c.loop-a.invariant in
    let s = c.in-Some.ensures.steps in
    let below : c.in-Some.a < c.args.self.now.task.now.actions = omega (arith, s.1, i.2) in (
      rw (ap (λ (n : Numbers). n.from) s.2)
          (actions_next _ _ _ _ c.args.self.now.are_of _ (omega arith) _ _ _ _ _ _ _ _ i.0 (rw (i.1, i.2) at s.0) below _
          (λ b k. c.after_step-entry.ensures b k ∙ ap (after_step b) (entry_read _ _ _ c.requires.below))
          _ _ c.offer_action.auto.entries c.offer_action.ensures),
      ap (λ (n : Numbers). in_words n.words.now n.at) s.2 ∙ i.1,
      ap (λ (n : Numbers). n.limit) s.2 ∙ i.2,
    )

pub returns : goal.returns
returns c =
    let i = c.loop-a.invariant in
    actions_end _ _ _ _ c.args.self.now.are_of _ (omega arith) _ _ _ _ _ _ _ _ i.0 (rw (i.1, i.2) at c.in-None.ensures.steps.0) (omega arith)
