-- A check is done exactly where each of its tests passes.
use Prim.Native.Nat.{ℕ, ◌≤◌}
use mathlib.Core.Path.{◌≡◌, refl, sym, ap, ◌∙◌}
use mathlib.Core.Logic.{◌↔◌}
use mathlib.Core.Bool.{Bool, true, false, ◌&&◌}
use native.Mathlib.Omega.{arith}
use lib.Dec.{leb, ltb, eqb}
use borrow.Author.Tests.{leb-true, ltb-true, eqb-true, le-leb, eq-eqb}
use Rattle.files.specs.Outcome.{Outcome, guard, and_then}
use Rattle.files.proofs.Guards.{guard_passes, goes_on_lem, passed, both_done}

pub guard_iff : (t : Bool) (n p : ℕ) (rest : Outcome) → ltb 0 n ≡ true → ((guard t n p rest).number ≡ 0) ↔ ((t ≡ true) × (rest.number ≡ 0))
guard_iff t n p rest h =
    (passed t n p rest (ltb-true 0 n h), λ q. sym (number (guard_passes t n p rest rest q.0 refl)) ∙ q.1)
  where
    number : {a b : Outcome} → a ≡ b → a.number ≡ b.number
    number e = ap (λ (o : Outcome). o.number) e

pub both_iff : (a b : Outcome) → ((and_then a b).number ≡ 0) ↔ ((a.number ≡ 0) × (b.number ≡ 0))
both_iff a b = (both_done a b, λ q. ap (λ (o : Outcome). o.number) (sym (goes_on_lem a b b a refl q.0 refl)) ∙ q.1)

pub and_iff : (a b : Bool) → ((a && b) ≡ true) ↔ ((a ≡ true) × (b ≡ true))
and_iff true b = (λ e. (refl, e), λ q. q.1)
and_iff false b = (λ e. absurd (impossible e), λ q. q.0)
  where
    impossible : false ≡ true → ⊥
    impossible e = let z : ◌≡◌ {A = ℕ} 0 1 = cc in omega arith

pub leb_iff : (a b : ℕ) → (leb a b ≡ true) ↔ (a ≤ b)
leb_iff a b = (leb-true a b, le-leb a b)

pub eqb_iff : (a b : ℕ) → (eqb a b ≡ true) ↔ (a ≡ b)
eqb_iff a b = (eqb-true a b, eq-eqb a b)

-- takes a check that is done, and a test that passes, to the facts about numbers that it stands for
pub ruleset facts = (guard_iff, both_iff, and_iff, leb_iff, eqb_iff)
