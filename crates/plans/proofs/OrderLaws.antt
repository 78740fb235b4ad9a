-- The order on cost and steps is total, and adding a step keeps it and reflects it.
use Prim.Native.Nat.{ℕ, ◌≤◌, ◌<◌}
use mathlib.Core.Path.{◌≡◌, refl}
use mathlib.Core.Bool.{true, false}
use mathlib.Core.List.{List, [], ◌∷◌}
use mathlib.Core.Logic.{◌⊎◌, inl, inr, ⊎_elim}
use native.Mathlib.Omega.{arith}
use lib.Dec.{eqb, ltb, leb}
use lib.ListN.{length}
use borrow.Author.Tests.{ltb-true, leb-true, eqb-true, lt-ltb, le-leb, eq-eqb}
use Rattle.files.specs.Task.{Action, Task}
use Rattle.files.proofs.Logic.{clash, split, split_le, and_split, and_join, or_split, or_left, or_right}
use Rattle.plans.specs.Plan.{Total, no_steps, add_step, total_of, at_most}

-- what the test says
abbrev pub AtMost : Total → Total → Type 0
AtMost x y = (x.minutes < y.minutes) ⊎ ((x.minutes ≡ y.minutes) × (x.steps ≤ y.steps))

pub at_most_says : (x y : Total) → at_most x y ≡ true → AtMost x y
unfolding at_most
at_most_says x y e =
    ⊎_elim
    (λ l. inl (ltb-true x.minutes y.minutes l))
    (λ r.
    let s = and_split (eqb x.minutes y.minutes) (leb x.steps y.steps) r in
    inr (eqb-true x.minutes y.minutes s.0, leb-true x.steps y.steps s.1))
    (or_split (ltb x.minutes y.minutes) _ e)

pub at_most_holds : (x y : Total) → AtMost x y → at_most x y ≡ true
unfolding at_most
at_most_holds x y h =
    ⊎_elim
    (λ l. or_left _ (lt-ltb x.minutes y.minutes l))
    (λ r. or_right (ltb x.minutes y.minutes) (and_join (eq-eqb x.minutes y.minutes r.0) (le-leb x.steps y.steps r.1)))
    h

-- what its failing says
pub at_most_fails : (x y : Total) → at_most x y ≡ false → (y.minutes < x.minutes) ⊎ ((y.minutes ≡ x.minutes) × (y.steps < x.steps))
at_most_fails x y e =
    split_le x.minutes y.minutes
    (λ l.
    split_le y.minutes x.minutes
    (λ m.
    split_le x.steps y.steps
    (λ s. clash (at_most_holds x y (inr (omega arith, s))) e)
    (λ s. inr (omega arith, s)))
    (λ m. clash (at_most_holds x y (inl m)) e))
    (λ l. inl l)

pub at_most_refl : (x : Total) → at_most x x ≡ true
at_most_refl x = at_most_holds x x (inr (refl, omega arith))

pub at_most_trans : (x y z : Total) → at_most x y ≡ true → at_most y z ≡ true → at_most x z ≡ true
at_most_trans x y z p q =
    at_most_holds x z
    (⊎_elim
    (λ a. ⊎_elim (λ b. inl (omega arith)) (λ b. inl (omega arith)) (at_most_says y z q))
    (λ a. ⊎_elim (λ b. inl (omega arith)) (λ b. inr (omega arith)) (at_most_says y z q))
    (at_most_says x y p))

pub at_most_antisym : (x y : Total) → at_most x y ≡ true → at_most y x ≡ true → x ≡ y
at_most_antisym x y p q =
    ⊎_elim
    (λ a. ⊎_elim (λ b. absurd (omega arith)) (λ b. absurd (omega arith)) (at_most_says y x q))
    (λ a.
    ⊎_elim
    (λ b. absurd (omega arith))
    (λ b.
    let m : x.minutes ≡ y.minutes = a.0 in
    let s : x.steps ≡ y.steps = omega arith in
    λ i. record { minutes = m i; steps = s i })
    (at_most_says y x q))
    (at_most_says x y p)

pub at_most_total : (x y : Total) → at_most x y ≡ false → at_most y x ≡ true
at_most_total x y e = at_most_holds y x (⊎_elim (λ l. inl l) (λ r. inr (omega arith)) (at_most_fails x y e))

-- nothing is less than no step
pub no_steps_least : (x : Total) → at_most no_steps x ≡ true
unfolding no_steps
no_steps_least x = at_most_holds no_steps x (split_le x.minutes 0 (λ l. inr (omega arith)) (λ l. inl l))

-- a step more is more
pub add_step_above : (a : Action) (x : Total) → at_most x (add_step a x) ≡ true
unfolding add_step
add_step_above a x = at_most_holds x (add_step a x) (split_le a.cost 0 (λ l. inr (omega arith)) (λ l. inl (omega arith)))

pub add_step_more : (a : Action) (x : Total) → at_most (add_step a x) x ≡ false
unfolding add_step
add_step_more a x =
    split (at_most (add_step a x) x)
    (λ e. absurd (⊎_elim (λ l. omega arith) (λ r. omega arith) (at_most_says (add_step a x) x e)))
    (λ e. e)

pub add_step_keeps : (a : Action) (x y : Total) → at_most x y ≡ true → at_most (add_step a x) (add_step a y) ≡ true
unfolding add_step
add_step_keeps a x y e =
    at_most_holds (add_step a x) (add_step a y) (⊎_elim (λ l. inl (omega arith)) (λ r. inr (omega arith)) (at_most_says x y e))

pub add_step_reflects : (a : Action) (x y : Total) → at_most (add_step a x) (add_step a y) ≡ true → at_most x y ≡ true
unfolding add_step
add_step_reflects a x y e =
    at_most_holds x y (⊎_elim (λ l. inl (omega arith)) (λ r. inr (omega arith)) (at_most_says (add_step a x) (add_step a y) e))

-- the total of a list: its steps are its length
pub total_steps : (t : Task) (plan : List ℕ) → (total_of t plan).steps ≡ length plan
unfolding total_of add_step no_steps
total_steps t [] = refl
total_steps t (a ∷ plan) = omega (arith, total_steps t plan)

-- one action in place of another that costs no less
abbrev pub NoDearer : Action → Action → Type 0
NoDearer b a = b.cost ≤ a.cost

pub no_dearer_self : (a : Action) → NoDearer a a
no_dearer_self a = omega arith

pub no_dearer_trans : (c b a : Action) → NoDearer c b → NoDearer b a → NoDearer c a
no_dearer_trans c b a m n = omega arith

pub add_step_cheaper : (b a : Action) (x y : Total) → NoDearer b a → at_most x y ≡ true → at_most (add_step b x) (add_step a y) ≡ true
unfolding add_step
add_step_cheaper b a x y n e =
    at_most_holds (add_step b x) (add_step a y)
    (⊎_elim
    (λ l. inl (omega arith))
    (λ r. split_le a.cost b.cost (λ m. inr (omega arith)) (λ m. inl (omega arith)))
    (at_most_says x y e))

pub add_step_cheaper_strict : (b a : Action) (x y : Total) → NoDearer b a → at_most y x ≡ false → at_most (add_step a y) (add_step b x) ≡ false
unfolding add_step
add_step_cheaper_strict b a x y n e =
    split (at_most (add_step a y) (add_step b x))
    (λ h.
    absurd
    (⊎_elim
    (λ l. ⊎_elim (λ k. omega arith) (λ k. omega arith) (at_most_says (add_step a y) (add_step b x) h))
    (λ r. ⊎_elim (λ k. omega arith) (λ k. omega arith) (at_most_says (add_step a y) (add_step b x) h))
    (at_most_fails y x e)))
    (λ h. h)

-- a step more in the second makes the first strictly less
pub add_step_drops : (a : Action) (x y : Total) → at_most x y ≡ true → at_most (add_step a y) x ≡ false
add_step_drops a x y e =
    split (at_most (add_step a y) x)
    (λ h. clash (at_most_trans (add_step a y) x y h e) (add_step_more a y))
    (λ h. h)
