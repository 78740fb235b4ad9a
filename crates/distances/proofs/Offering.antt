-- What the steps to a settled state offer.
use Prim.Native.Nat.{ℕ, zero, suc, ◌≤◌, ◌<◌}
use mathlib.Core.Path.{◌≡◌, refl, sym, ap, subst, ◌∙◌}
use mathlib.Core.Bool.{true, false}
use mathlib.Core.List.{List}
use mathlib.Core.Logic.{◌⊎◌, inl, inr, ⊎_elim}
use native.Mathlib.Omega.{arith}
use lib.Dec.{eqb}
use borrow.Author.Tests.{eqb-true, eq-eqb}
use Rattle.files.specs.Task.{Variable, Action, Task, action_count, action_of}
use Rattle.files.proofs.Logic.{clash, split, split_le, and_split, and_join}
use Rattle.plans.specs.State.{applicable}
use Rattle.distances.specs.States.{state_count, state_at}
use Rattle.distances.specs.Table.{next_state}
use Rattle.distances.specs.Entries.{lowered, after_step}
use Rattle.distances.specs.Rows.{leads_to, offered}
use Rattle.distances.specs.declared.Entry.{Entry}
use Rattle.distances.proofs.DistanceLaws.{Le, le_refl, le_trans, least_left, least_right}
use Rattle.distances.proofs.EntryLaws.{Near, distance_of, lowered_distance, lowered_is, after_distance}
use Rattle.distances.proofs.Settling.{Leads, Relaxed}

-- the same offers by actions that are the same
pub offered_same : (variables : List Variable) (f g : ℕ → Action) (x : ℕ) (e : Entry) (s : ℕ) (y : Entry) (count : ℕ)
    → ((a : ℕ) → a < count → f a ≡ g a) → offered variables f x e s y count ≡ offered variables g x e s y count
unfolding offered
offered_same variables f g x e s y zero h = refl
offered_same variables f g x e s y (suc count) h =
    rw (offered_same variables f g x e s y count (λ a l. h a (omega arith)), h count (omega arith)) refl

-- actions that do not lead to state x offer nothing
pub offered_skip : (variables : List Variable) (action : ℕ → Action) (x : ℕ) (e : Entry) (s : ℕ) (y : Entry) (from count : ℕ) → from ≤ count
    → ((a : ℕ) → from ≤ a → a < count → leads_to variables (action a) s x ≡ false) → offered variables action x e s y from ≡ offered variables action x e s y count
unfolding offered
offered_skip variables action x e s y from zero l h = let is : from ≡ 0 = omega arith in ap (offered variables action x e s y) is
offered_skip variables action x e s y from (suc count) l h =
    split_le from count
    (λ k. offered_skip variables action x e s y from count k (λ a b c. h a b (omega arith)) ∙ rw (h count k (omega arith)) refl)
    (λ k. let is : from ≡ suc count = omega arith in ap (offered variables action x e s y) is)

-- what the offers make of an entry y of state s
pub record Offers (variables : List Variable) (action : ℕ → Action) (x : ℕ) (e : Entry) (s : ℕ) (y z : Entry) (count : ℕ) : Type 0 where
  pub came : (z ≡ y) ⊎ ((a : ℕ) × (a < count) × (leads_to variables (action a) s x ≡ true) × (z ≡ after_step (action a) e))
  pub lower : Le (distance_of z) (distance_of y)
  pub every : (a : ℕ) → a < count → leads_to variables (action a) s x ≡ true → Le (distance_of z) (distance_of (after_step (action a) e))

module _ (variables : List Variable) (action : ℕ → Action) (x : ℕ) (e : Entry) (s : ℕ) (y : Entry) where
  -- no step by the next action, or one that is offered
  offers_skip : (z : Entry) (count : ℕ) → leads_to variables (action count) s x ≡ false → Offers variables action x e s y z count → Offers variables action x e s y z (suc count)
  offers_skip z count n w =
      record {
        came = ⊎_elim inl (λ q. inr (q.0, omega (arith, q.1), q.2, q.3)) w.came;
        lower = w.lower;
        every =
            λ a h l.
            split_le count a
            (λ k. let here : a ≡ count = omega arith in clash (ap (λ (b : ℕ). leads_to variables (action b) s x) (sym here) ∙ l) n)
            (λ k. w.every a k l);
      }

  offers_next : (z : Entry) (count : ℕ) → Near (after_step (action count) e) → leads_to variables (action count) s x ≡ true → Offers variables action x e s y z count
      → Offers variables action x e s y (lowered (after_step (action count) e) z) (suc count)
  offers_next z count c n w =
      let new = after_step (action count) e in
      let is = lowered_distance new z c in
      record {
        came =
            ⊎_elim
            (λ q. ⊎_elim (λ o. inl (q ∙ o)) (λ o. inr (o.0, omega (arith, o.1), o.2, q ∙ o.3)) w.came)
            (λ q. inr (count, omega arith, n, q))
            (lowered_is new z);
        lower = rw is (le_trans _ _ _ (least_left (distance_of z) (distance_of new)) w.lower);
        every =
            λ a h l.
            split_le count a
            (λ k.
            let here : a ≡ count = omega arith in
            subst (λ (b : ℕ). Le (distance_of (lowered new z)) (distance_of (after_step (action b) e))) (sym here)
            (rw is (least_right (distance_of z) (distance_of new))))
            (λ k. rw is (le_trans _ _ _ (least_left (distance_of z) (distance_of new)) (w.every a k l)));
      }

  pub offers : (count : ℕ) → ((a : ℕ) → a < count → Near (after_step (action a) e)) → Offers variables action x e s y (offered variables action x e s y count) count
  unfolding offered
  offers zero c = record { came = inl refl; lower = le_refl (distance_of y); every = λ a h l. absurd (omega arith) }
  offers (suc count) c =
      let w = offers count (λ a l. c a (omega arith)) in
      split (leads_to variables (action count) s x)
      (λ n. rw n (offers_next (offered variables action x e s y count) count (c count (omega arith)) n w))
      (λ n. rw n (offers_skip (offered variables action x e s y count) count n w))

-- the steps of a task
module _ (t : Task) where
  pub leads_says : (a s x : ℕ) → leads_to t.variables (action_of t a) s x ≡ true → Leads t a s x
  unfolding leads_to next_state
  leads_says a s x e =
      let both = and_split (applicable (action_of t a) (state_at t.variables s)) (eqb (next_state t a s) x) e in
      (both.0, eqb-true (next_state t a s) x both.1)

  pub leads_holds : (a s x : ℕ) → Leads t a s x → leads_to t.variables (action_of t a) s x ≡ true
  unfolding leads_to next_state
  leads_holds a s x l = and_join l.0 (eq-eqb (next_state t a s) x l.1)

  -- entries f where all steps to state x are offered relax those of g
  pub offered_relaxed : (f g : ℕ → Entry) (x : ℕ) → ((a : ℕ) → a < action_count t → Near (after_step (action_of t a) (f x)))
      → ((s : ℕ) → s < state_count t.variables → g s ≡ offered t.variables (action_of t) x (f x) s (f s) (action_count t))
      → Relaxed t (λ s. distance_of (f s)) (λ s. distance_of (g s)) x
  offered_relaxed f g x c h =
      record {
        came =
            λ s l.
            ⊎_elim
            (λ q. inl (ap distance_of (h s l ∙ q)))
            (λ q.
            inr (
              q.0,
              q.1,
              leads_says q.0 s x q.2,
              ap distance_of (h s l ∙ q.3) ∙ after_distance (action_of t q.0) (f x) (c q.0 q.1),
            ))
            (w s).came;
        lower = λ s l. rw (h s l) (w s).lower;
        every = λ a s b l k. rw (h s l, ← after_distance (action_of t a) (f x) (c a b)) ((w s).every a b (leads_holds a s x k));
      }
    where
      w : (s : ℕ) → Offers t.variables (action_of t) x (f x) s (f s) (offered t.variables (action_of t) x (f x) s (f s) (action_count t)) (action_count t)
      w s = offers t.variables (action_of t) x (f x) s (f s) (action_count t) c
