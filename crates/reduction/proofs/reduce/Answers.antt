-- The file, the level, the signer and the row give the outcome in this order; the arrays hold the file's task.
use Rattle.std.proofs.Common.{ℕ, refl, sym, ap, ◌∙◌, arith, rules}
use lib.Dec.{eqb}
use Rattle.files.specs.Outcome.{Outcome, outcome_of}
use Rattle.files.specs.Accepted.{accepted_task}
use Rattle.files.proofs.TaskChecked.{task_accepted}
use Rattle.files.proofs.Guards.{refusal_number, refused_number}
use Rattle.reduction.specs.Level.{level_number}
use Rattle.reduction.proofs.ReduceStages.{once_other, reduced_err, level_valid, at_level, input_refused, refused_file, refused_level, refused_signer, of_task}
use Rattle.reduction.proofs.reduce.Goals as goal

pub returns-in_err-read : goal.returns-in_err-read
returns-in_err-read c =
    let e = c.in_err-read.field-0.0 in
    let read = ap outcome_of (sym c.in_err-read.was) ∙ c.read.ensures.outcome in
    input_refused _ _ _ _ _ (refused_file _ _ _ _ read (refused_number e)) (refused_number e) _ (reduced_err _ e c.from_residual.ensures.1)

pub returns-in_err-level : goal.returns-in_err-level
returns-in_err-level c =
    let e = c.in_err-level.field-0.0 in
    let read = ap outcome_of (sym c.in_ok-read.was) ∙ c.read.ensures.outcome in
    let level = ap outcome_of (sym c.in_err-level.was) ∙ c.try_from.ensures.0 in
    input_refused _ _ _ _ _ (refused_level _ _ _ _ read refl _ level (refused_number e)) (refused_number e) _ (reduced_err _ e c.from_residual-in_err-level.ensures.1)

pub returns-then-signer-lt1 : goal.returns-then-signer-lt1
returns-then-signer-lt1 c =
    let read = ap outcome_of (sym c.in_ok-read.was) ∙ c.read.ensures.outcome in
    let is = refused_signer _ _ _ _ read refl _ (level_valid _ c.in_ok-level.ensures.0) c.if-signer-lt1.true c.at.ensures in
    input_refused _ _ _ _ _ is (refusal_number _ 7 _ (omega arith) c.at.ensures) _ refl

pub reduce_once-requires : goal.reduce_once-requires
reduce_once-requires c =
    let out = ap outcome_of c.in_ok-read.was in
    let passed = ap (λ (o : Outcome). o.number) out in
    record {
      accepted =
          ap accepted_task (c.read.ensures.task passed)
          ∙ task_accepted c.args.task.now (λ i. search rules) (ap (λ (o : Outcome). o.number) (sym c.read.ensures.outcome) ∙ passed);
      other = ap (λ (n : ℕ). eqb n 5) c.number-level.ensures ∙ once_other c.in-Once.level;
    }

pub returns-in-Once : goal.returns-in-Once
returns-in-Once c =
    let out = ap outcome_of c.in_ok-read.was in
    let passed = ap (λ (o : Outcome). o.number) out in
    let level = sym c.in_ok-level.ensures.1 ∙ ap level_number c.in-Once.is ∙ sym c.number-level.ensures in
    of_task _ _ _ _ (sym out ∙ c.read.ensures.outcome) refl (level_valid _ c.in_ok-level.ensures.0) c.if-signer-lt1.false _ _ (c.read.ensures.task passed) _ _
    (at_level level _ _ _ _ _ c.reduce_once.ensures)

pub reduce_in_turns-requires : goal.reduce_in_turns-requires
reduce_in_turns-requires c =
    let out = ap outcome_of c.in_ok-read.was in
    let passed = ap (λ (o : Outcome). o.number) out in
    ap accepted_task (c.read.ensures.task passed)
    ∙ task_accepted c.args.task.now (λ i. search rules) (ap (λ (o : Outcome). o.number) (sym c.read.ensures.outcome) ∙ passed)

pub returns-in-InTurns : goal.returns-in-InTurns
returns-in-InTurns c =
    let out = ap outcome_of c.in_ok-read.was in
    let passed = ap (λ (o : Outcome). o.number) out in
    let level = sym c.in_ok-level.ensures.1 ∙ ap level_number c.in-InTurns.is in
    of_task _ _ _ _ (sym out ∙ c.read.ensures.outcome) refl (level_valid _ c.in_ok-level.ensures.0) c.if-signer-lt1.false _ _ (c.read.ensures.task passed) _ _
    (at_level level _ _ _ _ _ c.reduce_in_turns.ensures)
