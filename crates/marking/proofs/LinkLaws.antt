-- What linked and unlinked facts are, and what an action that achieves an unlinked fact gains.
use Prim.Native.Nat.{ℕ, ◌<◌}
use mathlib.Core.Path.{◌≡◌, refl, sym, ap}
use mathlib.Core.Bool.{Bool, true, false, not, cond, ◌&&◌}
use mathlib.Core.Option.{some}
use lib.Dec.{eqb, leb}
use borrow.Author.Tests.{eqb-true, eq-eqb, not-true}
use Rattle.files.specs.Task.{Task, action_count, action_of, size_of, start_of, value_in}
use Rattle.files.proofs.BelowLaws.{any_below_intro}
use Rattle.files.proofs.Logic.{clash, split, cond_case, and_split, and_join}
use Rattle.plans.specs.State.{has_fact}
use Rattle.plans.proofs.FactLaws.{value_fact, fact_any}
use Rattle.marking.specs.Marks.{Marks, kept, relevant}
use Rattle.marking.specs.Links.{sets_other, threatened, linked, unlinked, has_relevant, tracked, gains_action}

-- a variable that is not threatened is set to its start value alone
pub unthreatened_effect : (t : Task) (A : ℕ → Bool) (a v e : ℕ) → threatened t A v ≡ false → a < action_count t → A a ≡ true → value_in (action_of t a).effects v ≡ some e → e ≡ start_of t v
unfolding threatened sets_other
unthreatened_effect t A a v e safe l k sets =
    split (eqb e (start_of t v))
    (λ same. eqb-true e (start_of t v) same)
    (λ other.
    clash
    (any_below_intro (action_count t) (λ b. A b && sets_other (action_of t b).effects v (start_of t v)) a l
    (and_join k
    (fact_any (λ w d. eqb w v && not (eqb d (start_of t v))) (action_of t a).effects v e (value_fact (action_of t a).effects v e sets)
    (and_join (eq-eqb v v refl) (ap not other)))))
    safe)

pub record Linked (t : Task) (A : ℕ → Bool) (v d : ℕ) : Type 0 where
  pub is_start : start_of t v ≡ d
  pub safe : threatened t A v ≡ false

pub linked_says : (t : Task) (level : ℕ) (A : ℕ → Bool) (v d : ℕ) → linked t level A v d ≡ true → Linked t A v d
unfolding linked
linked_says t level A v d e =
    let high = and_split (leb 3 level) _ e in
    let both = and_split (eqb d (start_of t v)) (not (threatened t A v)) high.1 in
    record { is_start = sym (eqb-true d (start_of t v) both.0); safe = not-true (threatened t A v) both.1 }

module _ (t : Task) (level : ℕ) (m : Marks) where
  pub unlinked_intro : (v d : ℕ) → relevant m v d ≡ true → linked t level (kept m) v d ≡ false → unlinked t level m v d ≡ true
  unfolding unlinked
  unlinked_intro v d r l = and_join r (ap not l)

  -- the variable of an unlinked fact is tracked
  pub tracked_intro : (v d : ℕ) → d < size_of t v → unlinked t level m v d ≡ true → tracked t level m v ≡ true
  unfolding tracked
  tracked_intro v d l u = any_below_intro (size_of t v) (unlinked t level m v) d l u

  -- an action with an unlinked effect is gained
  pub gains_action_intro : (a v d : ℕ) → d < size_of t v → relevant m v d ≡ true → unlinked t level m v d ≡ true → has_fact (action_of t a).effects v d ≡ true → gains_action t level m a ≡ true
  unfolding gains_action has_relevant
  gains_action_intro a v d l r u h =
      fact_any (λ w e. cond (eqb level 1) (has_relevant t m w) (unlinked t level m w e)) (action_of t a).effects v d h
      (cond_case (λ (b : Bool). b ≡ true) (eqb level 1) (has_relevant t m v) (unlinked t level m v d)
      (λ first. any_below_intro (size_of t v) (relevant m v) d l r)
      (λ other. u))
