-- The plan read off the distances: it ends where the goal holds, each step leads to a state with one step fewer, and it
-- is the first of all that have the distance.
use Prim.Native.Nat.{ℕ, zero, suc, ◌+◌, ◌-◌, ◌≤◌, ◌<◌}
use mathlib.Core.Path.{◌≡◌, refl, sym, ap, subst, ◌∙◌}
use mathlib.Core.Bool.{Bool, true, false}
use mathlib.Core.List.{List, [], ◌∷◌}
use mathlib.Core.Option.{none, some}
use native.Mathlib.Omega.{arith}
use lib.ListN.{length, get_or}
use lib.Dec.{ltb}
use borrow.Author.Tests.{lt-ltb, eq-eqb}
use Rattle.files.specs.Task.{Task, action_count, action_of}
use Rattle.files.proofs.Logic.{clash, split, split_le, and_join, or_left, or_right}
use Rattle.files.proofs.Valid.{Valid}
use Rattle.plans.specs.State.{all_hold, applicable}
use Rattle.plans.specs.Plan.{Total, no_steps, add_step, total_of, not_after}
use Rattle.plans.proofs.OrderLaws.{total_steps}
use Rattle.distances.specs.States.{state_count, state_at}
use Rattle.distances.specs.Table.{Distance, same, step_to, next_state, through, distances}
use Rattle.search.specs.FirstPlan.{first_action, steps_from}
use Rattle.distances.proofs.Radix.{next_below}
use Rattle.distances.proofs.DistanceLaws.{Le, some_none, le_antisym, step_to_keeps, step_to_injective, step_to_is_some, add_step_steps, same_is, is_same}
use Rattle.distances.proofs.Distances.{RunsFrom, step_total, total_none, through_applicable, through_not, distances_least, distances_some, distances_goal, distances_closed, steps_few}

-- by way of action a the state has its distance
abbrev pub tight : Task → List Distance → ℕ → ℕ → Bool
tight t row n a = same (through t row n a) (get_or row n none)

-- the first action from `low` on that is tight
pub record FirstTight (t : Task) (row : List Distance) (n low high a : ℕ) : Type 0 where
  pub passes : tight t row n a ≡ true
  pub above : low ≤ a
  pub below : a < high
  pub first : (b : ℕ) → low ≤ b → tight t row n b ≡ true → a ≤ b

module _ (t : Task) (row : List Distance) (n : ℕ) where
  first_here : (low count : ℕ) → tight t row n low ≡ true → first_action t row n low (suc count) ≡ low
  unfolding first_action
  first_here low count e = rw e

  first_later : (low count : ℕ) → tight t row n low ≡ false → first_action t row n low (suc count) ≡ first_action t row n (low + 1) count
  unfolding first_action
  first_later low count e = rw e

  pub first_tight : (low count b : ℕ) → low ≤ b → b < low + count → tight t row n b ≡ true → FirstTight t row n low (low + count) (first_action t row n low count)
  first_tight low zero b l h e = absurd (omega arith)
  first_tight low (suc count) b l h e =
      split (tight t row n low)
      (λ z. rw (first_here low count z) (record { passes = z; above = omega arith; below = omega arith; first = λ c m w. m }))
      (λ z.
      let later : (c : ℕ) → low ≤ c → tight t row n c ≡ true → low + 1 ≤ c =
      λ c m w. split_le c low (λ q. let here : low ≡ c = omega arith in clash (ap (tight t row n) here ∙ w) z) (λ q. omega arith) in
      let r = first_tight (low + 1) count b (later b l e) (omega arith) e in
      rw (first_later low count z)
      (record { passes = r.passes; above = omega (arith, r.above); below = omega (arith, r.below); first = λ c m w. r.first c (later c m w) w }))

  -- one step read off
  pub steps_goal : (k : ℕ) → all_hold t.goal (state_at t.variables n) ≡ true → steps_from t row n k ≡ []
  unfolding steps_from
  steps_goal zero e = refl
  steps_goal (suc k) e = rw e

  pub steps_more : (k : ℕ) → all_hold t.goal (state_at t.variables n) ≡ false
      → steps_from t row n (suc k) ≡ first_action t row n 0 (action_count t) ∷ steps_from t row (next_state t (first_action t row n 0 (action_count t)) n) k
  unfolding steps_from
  steps_more k e = rw e

abbrev pub action_from : Task → ℕ → ℕ
action_from t n = first_action t (distances t) n 0 (action_count t)

-- the first step leads to a state whose distance is one step less
pub record LeadsOn (t : Task) (n : ℕ) : Type 0 where
  pub below : action_from t n < action_count t
  pub passes : tight t (distances t) n (action_from t n) ≡ true
  pub applies : applicable (action_of t (action_from t n)) (state_at t.variables n) ≡ true
  pub inside : next_state t (action_from t n) n < state_count t.variables
  pub next : Total
  pub reached : get_or (distances t) (next_state t (action_from t n) n) none ≡ some next
  pub value : get_or (distances t) n none ≡ some (add_step (action_of t (action_from t n)) next)
  pub fewer : (x : Total) → get_or (distances t) n none ≡ some x → next.steps + 1 ≡ x.steps
  pub first : (b : ℕ) → tight t (distances t) n b ≡ true → action_from t n ≤ b

-- a list that runs, has the distance, and is not after any other that has it
pub record Found (t : Task) (n : ℕ) (plan : List ℕ) : Type 0 where
  pub runs : RunsFrom t n plan
  pub value : get_or (distances t) n none ≡ some (total_of t plan)
  pub first : (other : List ℕ) → RunsFrom t n other → get_or (distances t) n none ≡ some (total_of t other) → not_after plan other ≡ true

-- the order of lists
not_after_empty : (other : List ℕ) → not_after [] other ≡ true
unfolding not_after
not_after_empty other = refl

not_after_less : (a b : ℕ) (p q : List ℕ) → a < b → not_after (a ∷ p) (b ∷ q) ≡ true
unfolding not_after
not_after_less a b p q l = or_left _ (lt-ltb a b l)

not_after_same : (a b : ℕ) (p q : List ℕ) → a ≡ b → not_after p q ≡ true → not_after (a ∷ p) (b ∷ q) ≡ true
unfolding not_after
not_after_same a b p q e h = or_right (ltb a b) (and_join (eq-eqb a b e) h)

module _ (t : Task) where
  tight_of : (n b : ℕ) → applicable (action_of t b) (state_at t.variables n) ≡ true → step_to (action_of t b) (get_or (distances t) (next_state t b n) none) ≡ get_or (distances t) n none
      → tight t (distances t) n b ≡ true
  tight_of n b e q = is_same _ _ (through_applicable t (distances t) n b e ∙ q)

  total_step : (a : ℕ) (plan : List ℕ) → some (add_step (action_of t a) (total_of t plan)) ≡ some (total_of t (a ∷ plan))
  unfolding total_of
  total_step a plan = refl

module _ (t : Task) (valid : Valid t) where
  -- the first step of a list that has the distance, and the rest of it
  step_tight : (n b : ℕ) (plan : List ℕ) → n < state_count t.variables → RunsFrom t n (b ∷ plan) → get_or (distances t) n none ≡ some (total_of t (b ∷ plan))
      → step_to (action_of t b) (get_or (distances t) (next_state t b n) none) ≡ get_or (distances t) n none
  step_tight n b plan l r e =
      le_antisym _ _
      (subst (λ (x : Distance). Le (step_to (action_of t b) (get_or (distances t) (next_state t b n) none)) x) (step_total t b plan ∙ sym e)
      (step_to_keeps (action_of t b) _ _ (distances_least t valid (next_state t b n) plan (next_below t valid b n) r.2)))
      (distances_closed t valid b n r.0 l r.1)

  rest_tight : (n b : ℕ) (plan : List ℕ) → n < state_count t.variables → RunsFrom t n (b ∷ plan) → get_or (distances t) n none ≡ some (total_of t (b ∷ plan))
      → get_or (distances t) (next_state t b n) none ≡ some (total_of t plan)
  rest_tight n b plan l r e = step_to_injective (action_of t b) _ _ (step_tight n b plan l r e ∙ e ∙ sym (step_total t b plan))

  -- a tight action is applicable, and leads to a distance
  tight_applies : (n a : ℕ) (x : Total) → get_or (distances t) n none ≡ some x → tight t (distances t) n a ≡ true → applicable (action_of t a) (state_at t.variables n) ≡ true
  tight_applies n a x e h =
      split (applicable (action_of t a) (state_at t.variables n)) (λ z. z)
      (λ z. absurd (some_none x (sym (same_is (through t (distances t) n a) (get_or (distances t) n none) h ∙ e) ∙ through_not t (distances t) n a z)))

  leads_by : (n b : ℕ) (x : Total) (plan : List ℕ) → n < state_count t.variables → get_or (distances t) n none ≡ some x → RunsFrom t n (b ∷ plan)
      → get_or (distances t) n none ≡ some (total_of t (b ∷ plan)) → LeadsOn t n
  leads_by n b x plan l e r v =
      let a = action_from t n in
      let f = first_tight t (distances t) n 0 (action_count t) b (omega arith) (omega (arith, r.0)) (tight_of t n b r.1 (step_tight n b plan l r v)) in
      let applies : applicable (action_of t a) (state_at t.variables n) ≡ true = tight_applies n a x e f.passes in
      let step : step_to (action_of t a) (get_or (distances t) (next_state t a n) none) ≡ get_or (distances t) n none =
      sym (through_applicable t (distances t) n a applies) ∙ same_is (through t (distances t) n a) (get_or (distances t) n none) f.passes in
      let y = step_to_is_some (action_of t a) _ x (step ∙ e) in
      record {
        below = omega (arith, f.below);
        passes = f.passes;
        applies = applies;
        inside = next_below t valid a n;
        next = y.0;
        reached = y.1;
        value = e ∙ ap some (sym y.2);
        fewer = λ z q. let here : some x ≡ some z = sym e ∙ q in let same_total : x ≡ z = cc in sym (add_step_steps (action_of t a) y.0) ∙ ap (λ (w : Total). w.steps) (y.2 ∙ same_total);
        first = λ c w. f.first c (omega arith) w;
      }

  pub leads_on : (n : ℕ) (x : Total) → n < state_count t.variables → get_or (distances t) n none ≡ some x → all_hold t.goal (state_at t.variables n) ≡ false → LeadsOn t n
  leads_on n x l e g =
      let w = distances_some t valid n x l e in
      go w.plan w.runs w.value
    where
      go : (plan : List ℕ) → RunsFrom t n plan → get_or (distances t) n none ≡ some (total_of t plan) → LeadsOn t n
      go [] r v = clash r g
      go (b ∷ plan) r v = leads_by n b x plan l e r v

  -- at the goal
  pub goal_no_steps : (n : ℕ) (x : Total) → n < state_count t.variables → get_or (distances t) n none ≡ some x → all_hold t.goal (state_at t.variables n) ≡ true → x ≡ no_steps
  goal_no_steps n x l e g = let here : some x ≡ some no_steps = sym e ∙ distances_goal t valid n l g in cc

  found_goal : (n : ℕ) → n < state_count t.variables → all_hold t.goal (state_at t.variables n) ≡ true → Found t n []
  found_goal n l g =
      record { runs = g; value = distances_goal t valid n l g ∙ ap some (sym (total_none t)); first = λ other r v. not_after_empty other }

  found_step : (n : ℕ) (plan : List ℕ) → n < state_count t.variables → all_hold t.goal (state_at t.variables n) ≡ false → LeadsOn t n
      → Found t (next_state t (action_from t n) n) plan → Found t n (action_from t n ∷ plan)
  found_step n plan l g d f =
      record { runs = (d.below, d.applies, f.runs); value = has; first = least }
    where
      has : get_or (distances t) n none ≡ some (total_of t (action_from t n ∷ plan))
      has =
          let same_next : some d.next ≡ some (total_of t plan) = sym d.reached ∙ f.value in
          let next_total : d.next ≡ total_of t plan = cc in
          d.value ∙ ap (λ (x : Total). some (add_step (action_of t (action_from t n)) x)) next_total ∙ total_step t (action_from t n) plan

      least : (other : List ℕ) → RunsFrom t n other → get_or (distances t) n none ≡ some (total_of t other) → not_after (action_from t n ∷ plan) other ≡ true
      least [] r v = clash r g
      least (b ∷ other) r v =
          split_le b (action_from t n)
          (λ z.
          let here : action_from t n ≡ b = omega (arith, d.first b (tight_of t n b r.1 (step_tight n b other l r v))) in
          not_after_same (action_from t n) b plan other here
          (f.first other
          (subst (λ (c : ℕ). RunsFrom t (next_state t c n) other) (sym here) r.2)
          (subst (λ (c : ℕ). get_or (distances t) (next_state t c n) none ≡ some (total_of t other)) (sym here) (rest_tight n b other l r v))))
          (λ z. not_after_less (action_from t n) b plan other z)

  -- what is read off, with a limit of at least the distance's steps
  pub found : (k n : ℕ) (x : Total) → n < state_count t.variables → get_or (distances t) n none ≡ some x → x.steps ≤ k → Found t n (steps_from t (distances t) n k)
  found zero n x l e h =
      split (all_hold t.goal (state_at t.variables n))
      (λ g. rw (steps_goal t (distances t) n zero g) (found_goal n l g))
      (λ g. absurd (omega (arith, (leads_on n x l e g).fewer x e)))
  found (suc k) n x l e h =
      split (all_hold t.goal (state_at t.variables n))
      (λ g. rw (steps_goal t (distances t) n (suc k) g) (found_goal n l g))
      (λ g.
      let d = leads_on n x l e g in
      rw (steps_more t (distances t) n k g)
      (found_step n (steps_from t (distances t) (next_state t (action_from t n) n) k) l g d
      (found k (next_state t (action_from t n) n) d.next d.inside d.reached (omega (arith, d.fewer x e)))))

  pub steps_length_within : (k n : ℕ) (x : Total) → n < state_count t.variables → get_or (distances t) n none ≡ some x → x.steps ≤ k → length (steps_from t (distances t) n k) ≡ x.steps
  steps_length_within k n x l e h =
      let f = found k n x l e h in
      let here : some x ≡ some (total_of t (steps_from t (distances t) n k)) = sym e ∙ f.value in
      let same_total : x ≡ total_of t (steps_from t (distances t) n k) = cc in
      sym (total_steps t (steps_from t (distances t) n k)) ∙ ap (λ (w : Total). w.steps) (sym same_total)

  pub steps_length : (n : ℕ) (x : Total) → n < state_count t.variables → get_or (distances t) n none ≡ some x → length (steps_from t (distances t) n (state_count t.variables - 1)) ≡ x.steps
  steps_length n x l e = steps_length_within (state_count t.variables - 1) n x l e (omega (arith, steps_few t valid n x l e))
