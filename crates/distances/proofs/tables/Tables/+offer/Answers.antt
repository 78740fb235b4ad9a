use Rattle.std.proofs.Common.{arith, ◌<◌, ◌∙◌, get_or}
use Rattle.distances.proofs.OfferLoops.{turns_next, turns_end, offered_alike, alone, value_below, value_fits, value_offer, values_offer, every_value, every_value_last}
use Rattle.distances.proofs.tables.Tables.+offer.Goals as goal

pub overflow_mul-at : goal.overflow_mul-at
overflow_mul-at t c =
    let few : c.loop-value.value < 256 = omega arith in
    omega (arith, value_fits _ _ _ _ _ _ c.args.self.now.are_of.numbered c.requires.from c.first_in-v.ensures c.if-v-variables.true _ few)

pub overflow_add-at : goal.overflow_add-at
overflow_add-at t c =
    omega (arith, value_below _ _ _ _ _ _ c.args.self.now.are_of.numbered c.requires.from c.first_in-v.ensures c.if-v-variables.true _ c.loop-value-test.true, c.args.self.now.are_of.numbered.few)

pub offer-requires : goal.offer-requires
offer-requires t c =
    let turns = c.loop-value.invariant in
    let offer = value_offer _ _ _ _ _ _ c.args.self.now.are_of.numbered c.requires.from c.first_in-v.ensures c.if-v-variables.true _ c.first_in-next.ensures _ c.loop-value-test.true in (
      omega (arith, c.decreases, c.first_in-v.ensures.first, c.first_in-next.ensures.first),
      (turns.selecting, (turns.same ∙ c.requires.states, (c.requires.near, offer))),
    )

pub loop-value-preserved : goal.loop-value-preserved
loop-value-preserved t c = turns_next _ _ _ _ _ _ _ _ c.loop-value.invariant _ _ c.offer.auto.entries c.offer.ensures

pub offer_values-requires-clause-inside : goal.offer_values-requires-clause-inside
offer_values-requires-clause-inside t c =
    let few : get_or c.args.self.now.task.now.sizes c.first_in-v.result 0 < 256 = omega arith in
    let offer = values_offer _ _ _ _ _ _ c.args.self.now.are_of.numbered c.requires.from c.first_in-v.ensures c.if-v-variables.true few in
    record { weight_few = offer.weight_few; size_few = offer.size_few; inside = λ z h. omega (arith, offer.inside z h, c.requires.states) }

pub returns-after-loop-value : goal.returns-after-loop-value
returns-after-loop-value t c =
    turns_end _ _ _ _ _ _ _ _ c.loop-value.invariant _ (omega arith) (λ s l. every_value _ _ _ _ _ _ c.args.self.now.are_of.numbered c.requires.from c.first_in-v.ensures c.if-v-variables.true _ c.first_in-next.ensures s)

pub returns-else-next-variables : goal.returns-else-next-variables
returns-else-next-variables t c =
    let given = c.offer_values.ensures in
    record {
      offered =
          offered_alike _ _ _ _ _ _
          (λ s l.
          every_value_last _ _ _ _ _ _ c.args.self.now.are_of.numbered c.requires.from c.first_in-v.ensures c.if-v-variables.true _ c.first_in-next.ensures c.if-next-variables.false s (omega (arith, c.requires.states)))
          given.offered;
      settled_is = given.settled_is;
      selecting = given.selecting;
    }

pub returns-else-v-variables : goal.returns-else-v-variables
returns-else-v-variables t c =
    let given = c.lower.ensures in
    record {
      offered =
          offered_alike _ _ _ _ _ _
          (λ s l. alone _ _ _ _ _ _ c.args.self.now.are_of.numbered c.requires.from c.first_in-v.ensures c.if-v-variables.false s (omega (arith, c.requires.states)))
          given.offered;
      settled_is = given.settled_is;
      selecting = given.selecting;
    }
