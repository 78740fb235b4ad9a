-- Beside a refusal there is no stretch; else the action is one of the side's file.
use Rattle.std.proofs.Common.{ℕ, List, sym, ap, subst, ◌∙◌, arith}
use Rattle.std.proofs.lemmas.Result.{err_from_is_err_and}
use Rattle.files.specs.Outcome.{outcome_of}
use Rattle.files.proofs.Guards.{refused_number}
use Rattle.reduction.specs.Clauses.{HasAction}
use Rattle.reduction.specs.Stretch.{side_of}
use Rattle.reduction.proofs.StretchLaws.{actions_few, side_first, side_second, stretch_passed, stretch_done, stretch_refused, number}
use Rattle.reduction.proofs.conditions.Goals as goal

pub returns-in_err-check : goal.returns-in_err-check
returns-in_err-check c =
    let e = c.in_err-check.field-0.0 in
    let out = ap outcome_of (sym c.in_err-check.was) ∙ c.check.ensures in
    let p = err_from_is_err_and c.from_residual.result c.from_residual.ensures.1 in
    rw (p.1, p.2) record { stretch = sym (stretch_refused _ _ _ _ (λ z. refused_number e (number out ∙ z))); outcome = out }

pub overflow_cast-action : goal.overflow_cast-action
overflow_cast-action c =
    let out = ap outcome_of (sym c.in_ok-check.was) ∙ c.check.ensures in
    let w : HasAction (side_of c.args.side c.args.full.now c.args.reduced.now) c.args.action = stretch_passed _ _ _ _ (sym (number out)) in
    omega (arith, w.below, actions_few _ w.accepted)

pub original_pairs-requires : goal.original_pairs-requires
original_pairs-requires c =
    let out = ap outcome_of (sym c.in_ok-check.was) ∙ c.check.ensures in
    subst (λ (f : List ℕ). HasAction f c.args.action) (sym (side_first _ _ _ c.if-side-eq0.true)) (stretch_passed _ _ _ _ (sym (number out)))

pub returns-then-side-eq0 : goal.returns-then-side-eq0
returns-then-side-eq0 c =
    let out = ap outcome_of (sym c.in_ok-check.was) ∙ c.check.ensures in
    record { stretch = stretch_done _ _ _ _ _ _ (sym (number out)) c.original_pairs.ensures (side_first _ _ _ c.if-side-eq0.true); outcome = out }

pub overflow_cast-action-2 : goal.overflow_cast-action-2
overflow_cast-action-2 c =
    let out = ap outcome_of (sym c.in_ok-check.was) ∙ c.check.ensures in
    let w : HasAction (side_of c.args.side c.args.full.now c.args.reduced.now) c.args.action = stretch_passed _ _ _ _ (sym (number out)) in
    omega (arith, w.below, actions_few _ w.accepted)

pub reduced_pairs-requires : goal.reduced_pairs-requires
reduced_pairs-requires c =
    let out = ap outcome_of (sym c.in_ok-check.was) ∙ c.check.ensures in
    subst (λ (f : List ℕ). HasAction f c.args.action) (sym (side_second _ _ _ c.if-side-eq0.false)) (stretch_passed _ _ _ _ (sym (number out)))

pub returns : goal.returns
returns c =
    let out = ap outcome_of (sym c.in_ok-check.was) ∙ c.check.ensures in
    record { stretch = stretch_done _ _ _ _ _ _ (sym (number out)) c.reduced_pairs.ensures (side_second _ _ _ c.if-side-eq0.false); outcome = out }
