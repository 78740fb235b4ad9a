-- The order on distances is total, and a step in front keeps it and reflects it.
use Prim.Native.Nat.{ℕ, ◌+◌}
use mathlib.Core.Path.{◌≡◌, refl, sym, ap}
use mathlib.Core.Bool.{true, false, not}
use mathlib.Core.Logic.{◌⊎◌, inl, inr}
use mathlib.Core.Option.{none, some}
use native.Mathlib.Omega.{arith}
use borrow.Author.Tests.{not-true, not-false}
use Rattle.files.specs.Task.{Action}
use Rattle.files.proofs.Logic.{clash, split, and_split}
use Rattle.plans.specs.Plan.{Total, no_steps, add_step, at_most}
use Rattle.plans.proofs.OrderLaws.{at_most_refl, at_most_trans, at_most_antisym, at_most_total, no_steps_least, add_step_above, add_step_keeps, add_step_reflects}
use Rattle.distances.specs.Table.{Distance, less, least, same, step_to}

-- at most
abbrev pub Le : Distance → Distance → Type 0
Le x y = less y x ≡ false

-- the order of totals
pub le_at_most : (x y : Total) → Le (some x) (some y) → at_most x y ≡ true
unfolding less
le_at_most x y e = not-false (at_most x y) e

pub at_most_le : (x y : Total) → at_most x y ≡ true → Le (some x) (some y)
unfolding less
at_most_le x y e = ap not e

pub less_at_most : (x y : Total) → less (some x) (some y) ≡ true → at_most y x ≡ false
unfolding less
less_at_most x y e = not-true (at_most y x) e

pub le_none : (x : Distance) → Le x none
unfolding less
le_none x = refl

pub none_le : (x : Distance) → Le none x → x ≡ none
unfolding less
none_le none e = refl
none_le (some x) e = clash refl e

pub le_refl : (x : Distance) → Le x x
le_refl none = le_none none
le_refl (some x) = at_most_le x x (at_most_refl x)

pub some_none : (x : Total) → ◌≡◌ {A = Distance} (some x) none → ⊥
some_none x e = let z : ◌≡◌ {A = ℕ} 0 1 = cc in omega arith

pub le_trans : (x y z : Distance) → Le x y → Le y z → Le x z
le_trans x y none p q = le_none x
le_trans x none (some z) p q = absurd (some_none z (none_le (some z) q))
le_trans none (some y) (some z) p q = absurd (some_none y (none_le (some y) p))
le_trans (some x) (some y) (some z) p q = at_most_le x z (at_most_trans x y z (le_at_most x y p) (le_at_most y z q))

pub le_antisym : (x y : Distance) → Le x y → Le y x → x ≡ y
le_antisym none y p q = sym (none_le y p)
le_antisym (some x) none p q = none_le (some x) q
le_antisym (some x) (some y) p q = ap some (at_most_antisym x y (le_at_most x y p) (le_at_most y x q))

pub less_le : (x y : Distance) → less x y ≡ true → Le x y
unfolding less
less_le none y e = clash e refl
less_le (some x) none e = refl
less_le (some x) (some y) e = at_most_le x y (at_most_total y x (less_at_most x y e))

-- nothing is less than no step
pub no_steps_le : (x : Distance) → Le (some no_steps) x
no_steps_le none = le_none (some no_steps)
no_steps_le (some x) = at_most_le no_steps x (no_steps_least x)

-- a step in front
pub step_to_none : (a : Action) → step_to a none ≡ none
unfolding step_to
step_to_none a = refl

pub step_to_some : (a : Action) (x : Total) → step_to a (some x) ≡ some (add_step a x)
unfolding step_to
step_to_some a x = refl

pub step_to_above : (a : Action) (x : Distance) → Le x (step_to a x)
unfolding step_to
step_to_above a none = le_none none
step_to_above a (some x) = at_most_le x (add_step a x) (add_step_above a x)

pub step_to_keeps : (a : Action) (x y : Distance) → Le x y → Le (step_to a x) (step_to a y)
unfolding step_to
step_to_keeps a x none p = le_none (step_to a x)
step_to_keeps a none (some y) p = absurd (some_none y (none_le (some y) p))
step_to_keeps a (some x) (some y) p = at_most_le (add_step a x) (add_step a y) (add_step_keeps a x y (le_at_most x y p))

pub step_to_reflects : (a : Action) (x y : Distance) → Le (step_to a x) (step_to a y) → Le x y
unfolding step_to
step_to_reflects a x none p = le_none x
step_to_reflects a none (some y) p = absurd (some_none (add_step a y) (none_le (some (add_step a y)) p))
step_to_reflects a (some x) (some y) p = at_most_le x y (add_step_reflects a x y (le_at_most (add_step a x) (add_step a y) p))

pub step_to_injective : (a : Action) (x y : Distance) → step_to a x ≡ step_to a y → x ≡ y
step_to_injective a x y e =
    le_antisym x y (step_to_reflects a x y (rw e (le_refl (step_to a y)))) (step_to_reflects a y x (rw e (le_refl (step_to a y))))

-- a distance that has a step in front of another has one step more
pub step_to_is_some : (a : Action) (x : Distance) (y : Total) → step_to a x ≡ some y → (z : Total) × (x ≡ some z) × (add_step a z ≡ y)
unfolding step_to
step_to_is_some a none y e = absurd (some_none y (sym e))
step_to_is_some a (some z) y e = (z, refl, cc)

pub add_step_steps : (a : Action) (x : Total) → (add_step a x).steps ≡ x.steps + 1
unfolding add_step
add_step_steps a x = refl

pub add_step_minutes : (a : Action) (x : Total) → (add_step a x).minutes ≡ a.cost + x.minutes
unfolding add_step
add_step_minutes a x = refl

-- the lesser of two
pub least_left : (x y : Distance) → Le (least x y) x
unfolding least
least_left x y = split (less y x) (λ e. rw e (less_le y x e)) (λ e. rw e (le_refl x))

pub least_right : (x y : Distance) → Le (least x y) y
unfolding least
least_right x y = split (less y x) (λ e. rw e (le_refl y)) (λ e. rw e e)

pub least_is : (x y : Distance) → (least x y ≡ x) ⊎ (least x y ≡ y)
unfolding least
least_is x y = split (less y x) (λ e. inr (rw e)) (λ e. inl (rw e))

-- the test that two are the same
pub same_is : (x y : Distance) → same x y ≡ true → x ≡ y
unfolding same
same_is x y e =
    let both = and_split (not (less x y)) (not (less y x)) e in
    le_antisym x y (not-true (less y x) both.1) (not-true (less x y) both.0)

pub same_refl : (x : Distance) → same x x ≡ true
unfolding same
same_refl x = rw (le_refl x)

pub is_same : (x y : Distance) → x ≡ y → same x y ≡ true
is_same x y e = rw e (same_refl y)
