-- Level 5 has turns; another number is a level of marking or none.
use Rattle.std.proofs.Common.{◌≡◌, ℕ, Bool, ◌&&◌, refl, sym, ap, ◌∙◌, arith}
use Rattle.std.proofs.lemmas.Result.{err_from_is_err_and}
use lib.Dec.{leb}
use borrow.Author.Tests.{le-leb, lt-leb}
use Rattle.files.specs.Outcome.{done, guard, outcome_of}
use Rattle.files.proofs.Logic.{split_le}
use Rattle.marking.specs.Mark.{valid_level}
use Rattle.reduction.specs.Reduce.{valid_reduction}
use Rattle.reduction.proofs.level.LevelTryFromU32.try_from.Goals as goal

same_valid : (n : ℕ) → (n ≡ 5 → ⊥) → valid_level n ≡ valid_reduction n
unfolding valid_level valid_reduction
same_valid n d =
    ap (λ (b : Bool). leb 1 n && b)
    (split_le n 4
    (λ few. le-leb n 4 few ∙ sym (le-leb n 5 (omega arith)))
    (λ many. lt-leb n 4 many ∙ sym (lt-leb n 5 (omega arith))))

pub returns-then-number-eq5 : goal.returns-then-number-eq5
unfolding guard valid_reduction
returns-then-number-eq5 c = rw c.if-number-eq5.true (refl, refl)

pub returns-in_err-level : goal.returns-in_err-level
returns-in_err-level c =
    let out = ap outcome_of (sym c.in_err-level.was) ∙ c.try_from.ensures.0 ∙ ap (λ (b : Bool). guard b 8 0 done) (same_valid c.args.number c.if-number-eq5.false) in
    let p = err_from_is_err_and c.from_residual.result c.from_residual.ensures.1 in
    rw (p.1, p.2) (out, tt)

pub returns : goal.returns
returns c =
    (c.in_ok-level.ensures.0 ∙ ap (λ (b : Bool). guard b 8 0 done) (same_valid c.args.number c.if-number-eq5.false), c.in_ok-level.ensures.1)
