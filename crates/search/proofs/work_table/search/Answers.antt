-- A refusal leaves what it found; else the plan's file is begun, written and ended.
use Rattle.std.proofs.Common.{arith}
use mathlib.Core.Path.{refl, subst}
use Rattle.std.specs.Prelude.{Ok, Err}
use Rattle.distances.specs.declared.Entry.{Entry}
use Rattle.search.specs.Found.{Begins, signed_off}
use Rattle.search.proofs.SearchLaws.{can_steps, can_end, searches_not, searches_refused, searches_done}
use Rattle.search.proofs.work_table.search.Goals as goal

pub returns-in_err-search_files : goal.returns-in_err-search_files
returns-in_err-search_files c =
    searches_not _ _ _ _ _ _ _ c.in_err-search_files.field-0.0 _ _ _ _ _ c.in_err-search_files.ensures c.from_residual.result c.from_residual.ensures.1

pub returns-in_err-found : goal.returns-in_err-found
returns-in_err-found c =
    let r = c.in_err-found.field-0.0 in
    searches_refused _ _ _ _ _ _ _ _ _ _ _ c.in_ok-search_files.ensures refl _ _ _ r
    (subst (λ (e : Entry). Begins c.search_files.new.self.states e c.args.plan.now (Err r) c.begin.new.plan) c.entry_at.ensures c.in_err-found.ensures)
    c.from_residual-in_err-found.result c.from_residual-in_err-found.ensures.1

pub write_steps-requires : goal.write_steps-requires
write_steps-requires c =
    let x = c.in_ok-found.found in
    can_steps _ _ _ _ _ _ _ _ _ _ _ c.in_ok-search_files.ensures refl c.args.signer _ _ x
    (subst (λ (e : Entry). Begins c.search_files.new.self.states e c.args.plan.now (Ok x) c.begin.new.plan) c.entry_at.ensures c.in_ok-found.ensures)
    c.requires c.begin.auto.plan

pub put_sign_off-requires : goal.put_sign_off-requires
put_sign_off-requires c =
    let x = c.in_ok-found.found in
    omega (
      arith,
      c.write_steps.auto.plan,
      c.begin.auto.plan,
      can_end _ _ _ _ _ _ _ _ _ _ _ c.in_ok-search_files.ensures refl c.args.signer _ _ x
          (subst (λ (e : Entry). Begins c.search_files.new.self.states e c.args.plan.now (Ok x) c.begin.new.plan) c.entry_at.ensures c.in_ok-found.ensures),
    )

pub returns : goal.returns
unfolding signed_off
returns c =
    let x = c.in_ok-found.found in
    searches_done _ _ _ _ _ _ _ _ _ _ _ c.in_ok-search_files.ensures refl _ _ _ x
    (subst (λ (e : Entry). Begins c.search_files.new.self.states e c.args.plan.now (Ok x) c.begin.new.plan) c.entry_at.ensures c.in_ok-found.ensures)
    _ c.write_steps.ensures _ c.put_sign_off.ensures
