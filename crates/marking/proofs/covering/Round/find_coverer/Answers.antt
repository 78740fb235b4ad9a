use Rattle.std.proofs.Common.{sym, ap, ◌∙◌, ◌*◌, arith}
use Rattle.bits.specs.Sets.{FirstFrom, in_words}
use Rattle.bits.specs.declared.sets.Numbers.{Numbers}
use Rattle.marking.proofs.CoverSearch.{sought_next, sought_found, sought_none}
use Rattle.marking.proofs.covering.Round.find_coverer.Goals as goal

pub returns-then-is_kept_alike : goal.returns-then-is_kept_alike
returns-then-is_kept_alike c =
    let l = c.loop-b in
    let r = c.args.self.now in
    let s = c.in-Some.ensures.steps in
    let first : FirstFrom (in_words r.could_cover.now (8 * c.args.a)) r.task.now.actions l.b-iterator.from c.in-Some.b = rw (l.invariant.1, l.invariant.2) at s.0 in
    sought_found _ _ _ _ _ _ _ _ _ _ l.invariant.0 first (omega (arith, s.1, l.invariant.2)) (sym c.is_kept_alike.ensures ∙ c.if-is_kept_alike.true)

pub loop-b-preserved : goal.loop-b-preserved
loop-b-preserved c =
    let l = c.loop-b in
    let r = c.args.self.now in
    let s = c.in-Some.ensures.steps in
    let first : FirstFrom (in_words r.could_cover.now (8 * c.args.a)) r.task.now.actions l.b-iterator.from c.in-Some.b = rw (l.invariant.1, l.invariant.2) at s.0 in (
      rw (ap (λ (n : Numbers). n.from) s.2)
          (sought_next _ _ _ _ _ _ _ _ _ _ l.invariant.0 first (omega (arith, s.1, l.invariant.2)) (sym c.is_kept_alike.ensures ∙ c.if-is_kept_alike.false)),
      ap (λ (n : Numbers). in_words n.words.now n.at) s.2 ∙ l.invariant.1,
      ap (λ (n : Numbers). n.limit) s.2 ∙ l.invariant.2,
    )

pub returns : goal.returns
returns c =
    let l = c.loop-b in
    let r = c.args.self.now in
    let s = c.in-None.ensures.steps in
    let last : FirstFrom (in_words r.could_cover.now (8 * c.args.a)) r.task.now.actions l.b-iterator.from r.task.now.actions = rw (l.invariant.1, l.invariant.2) at s.0 in
    sought_none _ _ _ _ _ _ _ _ _ l.invariant.0 last
