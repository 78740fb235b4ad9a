-- Each entry of the distances is least over all lists that run, of any length: a list without loops has fewer steps than
-- there are states, and leaving out a loop makes no list worse. So the distances are the only ones that are settled.
use Prim.Native.Nat.{ℕ, zero, suc, ◌-◌, ◌*◌, ◌≤◌, ◌<◌}
use mathlib.Core.Path.{◌≡◌, refl, sym, ap, subst, ◌∙◌}
use mathlib.Core.Bool.{true, false}
use mathlib.Core.List.{List, [], ◌∷◌}
use mathlib.Core.Logic.{◌⊎◌, inl, inr, ⊎_elim}
use mathlib.Core.Option.{none, some}
use native.Mathlib.Omega.{arith}
use lib.ListN.{length, get_or}
use Rattle.files.specs.Task.{Task, action_count, action_of}
use Rattle.files.proofs.Logic.{split, split_le}
use Rattle.files.proofs.Tabulate.{tabulate_from_length, tabulate_entry}
use Rattle.files.proofs.Valid.{Valid}
use Rattle.plans.specs.State.{State, all_hold, applicable}
use Rattle.plans.specs.Plan.{Total, no_steps, add_step, total_of}
use Rattle.plans.proofs.OrderLaws.{total_steps}
use Rattle.plans.proofs.RunLaws.{Runs}
use Rattle.distances.specs.States.{state_count, state_at}
use Rattle.distances.specs.Table.{Distance, step_to, at_goal, next_state, through, least_below, distances_in, distances}
use Rattle.distances.proofs.Settled.{Settled}
use Rattle.distances.proofs.Radix.{next_below, next_state_lem}
use Rattle.distances.proofs.DistanceLaws.{Le, le_none, none_le, some_none, le_refl, le_trans, le_antisym, no_steps_le, step_to_none, step_to_above, step_to_keeps, least_left, least_right, least_is}
use Rattle.files.proofs.Distinct.{Lacks, Distinct, AllBelow, split_eq, distinct_few}

-- from the state of number n the steps are applicable in turn, and the goal holds after them
abbrev pub RunsFrom : Task → ℕ → List ℕ → Type 0
RunsFrom t n [] = all_hold t.goal (state_at t.variables n) ≡ true
RunsFrom t n (a ∷ plan) = (a < action_count t) × (applicable (action_of t a) (state_at t.variables n) ≡ true) × RunsFrom t (next_state t a n) plan

-- the numbers of the states that it passes
abbrev visited : Task → ℕ → List ℕ → List ℕ
visited t n [] = n ∷ []
visited t n (a ∷ plan) = n ∷ visited t (next_state t a n) plan

visited_length : (t : Task) (n : ℕ) (plan : List ℕ) → length (visited t n plan) ≡ suc (length plan)
visited_length t n [] = refl
visited_length t n (a ∷ plan) = ap suc (visited_length t (next_state t a n) plan)

-- a step in front of a list
pub step_total : (t : Task) (a : ℕ) (plan : List ℕ) → step_to (action_of t a) (some (total_of t plan)) ≡ some (total_of t (a ∷ plan))
unfolding step_to total_of
step_total t a plan = refl

pub total_none : (t : Task) → total_of t [] ≡ no_steps
unfolding total_of
total_none t = refl

-- runs over states are runs over their numbers
module _ (t : Task) (valid : Valid t) where
  pub to_states : (n : ℕ) (plan : List ℕ) → RunsFrom t n plan → Runs t (state_at t.variables n) plan
  to_states n [] r = r
  to_states n (a ∷ plan) r = (r.0, r.1, subst (λ (s : State). Runs t s plan) (next_state_lem t valid a n) (to_states (next_state t a n) plan r.2))

  pub to_numbers : (n : ℕ) (plan : List ℕ) → Runs t (state_at t.variables n) plan → RunsFrom t n plan
  to_numbers n [] r = r
  to_numbers n (a ∷ plan) r =
      (r.0, r.1, to_numbers (next_state t a n) plan (subst (λ (s : State). Runs t s plan) (sym (next_state_lem t valid a n)) r.2))

  visited_below : (n : ℕ) (plan : List ℕ) → n < state_count t.variables → AllBelow (state_count t.variables) (visited t n plan)
  visited_below n [] l = (l, tt)
  visited_below n (a ∷ plan) l = (l, visited_below (next_state t a n) plan (next_below t valid a n))

-- a list without loops that is no worse than x
record Simple (t : Task) (n : ℕ) (x : Distance) : Type 0 where
  plan : List ℕ
  runs : RunsFrom t n plan
  distinct : Distinct (visited t n plan)
  no_worse : Le (some (total_of t plan)) x

module _ (t : Task) where
  weaken : (n : ℕ) (x y : Distance) → Le x y → Simple t n x → Simple t n y
  weaken n x y l q = record { plan = q.plan; runs = q.runs; distinct = q.distinct; no_worse = le_trans _ x y q.no_worse l }

  longer : (a : ℕ) (plan : List ℕ) → Le (some (total_of t plan)) (some (total_of t (a ∷ plan)))
  longer a plan = subst (λ (x : Distance). Le (some (total_of t plan)) x) (step_total t a plan) (step_to_above (action_of t a) (some (total_of t plan)))

  both_longer : (a : ℕ) (p q : List ℕ) → Le (some (total_of t p)) (some (total_of t q)) → Le (some (total_of t (a ∷ p))) (some (total_of t (a ∷ q)))
  both_longer a p q l =
      subst (λ (x : Distance). Le x (some (total_of t (a ∷ q)))) (step_total t a p)
      (subst (λ (x : Distance). Le (step_to (action_of t a) (some (total_of t p))) x) (step_total t a q) (step_to_keeps (action_of t a) _ _ l))

  -- the state m is not passed, or the rest from there on runs from it
  cut : (m n : ℕ) (plan : List ℕ) → RunsFrom t n plan → Distinct (visited t n plan) → Lacks m (visited t n plan) ⊎ Simple t m (some (total_of t plan))
  cut m n [] r d =
      split_eq m n
      (λ e. inr (subst (λ (k : ℕ). Simple t k (some (total_of t []))) (sym e) (record { plan = []; runs = r; distinct = d; no_worse = le_refl _ })))
      (λ e. inl (e, tt))
  cut m n (a ∷ plan) r d =
      split_eq m n
      (λ e. inr (subst (λ (k : ℕ). Simple t k (some (total_of t (a ∷ plan)))) (sym e) (record { plan = a ∷ plan; runs = r; distinct = d; no_worse = le_refl _ })))
      (λ e. ⊎_elim (λ l. inl (e, l)) (λ q. inr (weaken m _ _ (longer a plan) q)) (cut m (next_state t a n) plan r.2 d.1))

  without_loops : (n : ℕ) (plan : List ℕ) → RunsFrom t n plan → Simple t n (some (total_of t plan))
  without_loops n [] r = record { plan = []; runs = r; distinct = (tt, tt); no_worse = le_refl _ }
  without_loops n (a ∷ plan) r =
      let q = without_loops (next_state t a n) plan r.2 in
      ⊎_elim
      (λ l. record { plan = a ∷ q.plan; runs = (r.0, r.1, q.runs); distinct = (l, q.distinct); no_worse = both_longer a q.plan plan q.no_worse })
      (λ z. weaken n _ _ (le_trans _ _ _ q.no_worse (longer a plan)) z)
      (cut n (next_state t a n) q.plan q.runs q.distinct)

  -- the rounds: no step, and a first step
  pub through_applicable : (row : List Distance) (n a : ℕ) → applicable (action_of t a) (state_at t.variables n) ≡ true → through t row n a ≡ step_to (action_of t a) (get_or row (next_state t a n) none)
  unfolding through
  through_applicable row n a e = rw e

  pub through_not : (row : List Distance) (n a : ℕ) → applicable (action_of t a) (state_at t.variables n) ≡ false → through t row n a ≡ none
  unfolding through
  through_not row n a e = rw e

  goal_distance : (n : ℕ) → all_hold t.goal (state_at t.variables n) ≡ true → at_goal t n ≡ some no_steps
  unfolding at_goal
  goal_distance n e = rw e

  no_goal_distance : (n : ℕ) → all_hold t.goal (state_at t.variables n) ≡ false → at_goal t n ≡ none
  unfolding at_goal
  no_goal_distance n e = rw e

  least_below_goal : (row : List Distance) (n k : ℕ) → all_hold t.goal (state_at t.variables n) ≡ true → Le (least_below t row n k) (some no_steps)
  unfolding least_below
  least_below_goal row n zero e = rw (goal_distance n e) (le_refl _)
  least_below_goal row n (suc k) e = le_trans _ _ _ (least_left (least_below t row n k) (through t row n k)) (least_below_goal row n k e)

  least_below_action : (row : List Distance) (n k a : ℕ) → a < k → Le (least_below t row n k) (through t row n a)
  unfolding least_below
  least_below_action row n zero a h = absurd (omega arith)
  least_below_action row n (suc k) a h =
      split_le k a
      (λ l. let here : k ≡ a = omega arith in subst (λ (b : ℕ). Le (least_below t row n (suc k)) (through t row n b)) here (least_right (least_below t row n k) (through t row n k)))
      (λ l. le_trans _ _ _ (least_left (least_below t row n k) (through t row n k)) (least_below_action row n k a l))

-- none, or a list of at most k steps has it
abbrev AttainedIn : Task → ℕ → ℕ → Distance → Type 0
AttainedIn t k n x = (x ≡ none) ⊎ ((plan : List ℕ) × RunsFrom t n plan × (x ≡ some (total_of t plan)) × (length plan ≤ k))

-- a list of fewer steps than states has the entry
pub record Reached (t : Task) (n : ℕ) : Type 0 where
  pub plan : List ℕ
  pub runs : RunsFrom t n plan
  pub value : get_or (distances t) n none ≡ some (total_of t plan)
  pub short : length plan < state_count t.variables

rows_length : (t : Task) (k : ℕ) → length (distances_in t k) ≡ state_count t.variables
unfolding distances_in
rows_length t zero = tabulate_from_length (at_goal t) 0 (state_count t.variables)
rows_length t (suc k) = tabulate_from_length (λ n. least_below t (distances_in t k) n (action_count t)) 0 (state_count t.variables)

pub distances_length : (t : Task) → length (distances t) ≡ state_count t.variables
unfolding distances
distances_length t = rows_length t (state_count t.variables - 1)

module _ (t : Task) where
  row_first : (n : ℕ) → n < state_count t.variables → get_or (distances_in t zero) n none ≡ at_goal t n
  unfolding distances_in
  row_first n l = tabulate_entry (at_goal t) (state_count t.variables) n none l

  row_next : (k n : ℕ) → n < state_count t.variables → get_or (distances_in t (suc k)) n none ≡ least_below t (distances_in t k) n (action_count t)
  unfolding distances_in
  row_next k n l = tabulate_entry (λ m. least_below t (distances_in t k) m (action_count t)) (state_count t.variables) n none l

  attained_goal : (k n : ℕ) → AttainedIn t k n (at_goal t n)
  attained_goal k n =
      split (all_hold t.goal (state_at t.variables n))
      (λ e. inr ([], e, goal_distance t n e ∙ ap some (sym (total_none t)), omega arith))
      (λ e. inl (no_goal_distance t n e))

module _ (t : Task) (valid : Valid t) where
  -- what a row has is least over the lists of as many steps
  row_least : (k n : ℕ) (plan : List ℕ) → length plan ≤ k → n < state_count t.variables → RunsFrom t n plan → Le (get_or (distances_in t k) n none) (some (total_of t plan))
  row_least zero n [] h l r = rw (row_first t n l, goal_distance t n r, total_none t) (le_refl _)
  row_least zero n (a ∷ plan) h l r = absurd (omega arith)
  row_least (suc k) n [] h l r = rw (row_next t k n l, total_none t) (least_below_goal t (distances_in t k) n (action_count t) r)
  row_least (suc k) n (a ∷ plan) h l r =
      let rest : Le (get_or (distances_in t k) (next_state t a n) none) (some (total_of t plan)) = row_least k (next_state t a n) plan (omega arith) (next_below t valid a n) r.2 in
      rw (row_next t k n l, ← step_total t a plan)
      (le_trans _ _ _
      (subst (λ (x : Distance). Le (least_below t (distances_in t k) n (action_count t)) x) (through_applicable t (distances_in t k) n a r.1)
      (least_below_action t (distances_in t k) n (action_count t) a r.0))
      (step_to_keeps (action_of t a) _ _ rest))

  -- and some list of as many steps has it
  attained_step : (row : List Distance) (k n a : ℕ) → a < action_count t → AttainedIn t k (next_state t a n) (get_or row (next_state t a n) none) → AttainedIn t (suc k) n (through t row n a)
  attained_step row k n a h w =
      split (applicable (action_of t a) (state_at t.variables n))
      (λ e.
      ⊎_elim
      (λ z. inl (through_applicable t row n a e ∙ ap (step_to (action_of t a)) z ∙ step_to_none (action_of t a)))
      (λ z. inr (a ∷ z.0, (h, e, z.1), through_applicable t row n a e ∙ ap (step_to (action_of t a)) z.2 ∙ step_total t a z.0, omega (arith, z.3)))
      w)
      (λ e. inl (through_not t row n a e))

  attained_least : (row : List Distance) (k n b : ℕ) → b ≤ action_count t
      → ((m : ℕ) → m < state_count t.variables → AttainedIn t k m (get_or row m none)) → AttainedIn t (suc k) n (least_below t row n b)
  unfolding least_below
  attained_least row k n zero h f = attained_goal t (suc k) n
  attained_least row k n (suc b) h f =
      ⊎_elim
      (λ e. rw e (attained_least row k n b (omega arith) f))
      (λ e. rw e (attained_step row k n b h (f (next_state t b n) (next_below t valid b n))))
      (least_is (least_below t row n b) (through t row n b))

  row_attained : (k n : ℕ) → n < state_count t.variables → AttainedIn t k n (get_or (distances_in t k) n none)
  row_attained zero n l = rw (row_first t n l) (attained_goal t zero n)
  row_attained (suc k) n l = rw (row_next t k n l) (attained_least (distances_in t k) k n (action_count t) (omega arith) (row_attained k))

  simple_short : (n : ℕ) (x : Distance) → n < state_count t.variables → (q : Simple t n x) → length q.plan < state_count t.variables
  simple_short n x l q =
      omega (arith, distinct_few (state_count t.variables) (visited t n q.plan) q.distinct (visited_below t valid n q.plan l), visited_length t n q.plan)

  -- no list that runs, of any length, has less
  pub distances_least : (n : ℕ) (plan : List ℕ) → n < state_count t.variables → RunsFrom t n plan → Le (get_or (distances t) n none) (some (total_of t plan))
  unfolding distances
  distances_least n plan l r =
      let q = without_loops t n plan r in
      le_trans _ _ _ (row_least (state_count t.variables - 1) n q.plan (omega (arith, simple_short n _ l q)) l q.runs) q.no_worse

  pub distances_reached : (n : ℕ) → n < state_count t.variables → (get_or (distances t) n none ≡ none) ⊎ Reached t n
  unfolding distances
  distances_reached n l =
      ⊎_elim inl (λ w. inr (record { plan = w.0; runs = w.1; value = w.2; short = omega (arith, w.3) })) (row_attained (state_count t.variables - 1) n l)

  -- none exactly where no list runs
  pub distances_none : (n : ℕ) → n < state_count t.variables → get_or (distances t) n none ≡ none → (plan : List ℕ) → RunsFrom t n plan → ⊥
  distances_none n l e plan r = some_none _ (none_le _ (subst (λ (x : Distance). Le x (some (total_of t plan))) e (distances_least n plan l r)))

  -- an entry is some list's
  pub distances_some : (n : ℕ) (x : Total) → n < state_count t.variables → get_or (distances t) n none ≡ some x → Reached t n
  distances_some n x l e = ⊎_elim (λ z. absurd (some_none x (sym e ∙ z))) (λ w. w) (distances_reached n l)

  settled_least : (f : ℕ → Distance) → Settled t f → (n : ℕ) (plan : List ℕ) → n < state_count t.variables → RunsFrom t n plan → Le (f n) (some (total_of t plan))
  settled_least f h n [] l r = rw (h.goals n l r, total_none t) (le_refl _)
  settled_least f h n (a ∷ plan) l r =
      rw (← step_total t a plan)
      (le_trans _ _ _ (h.closed a n r.0 l r.1) (step_to_keeps (action_of t a) _ _ (settled_least f h (next_state t a n) plan (next_below t valid a n) r.2)))

  -- settled distances are these
  pub settled_is : (f : ℕ → Distance) → Settled t f → (n : ℕ) → n < state_count t.variables → f n ≡ get_or (distances t) n none
  settled_is f h n l =
      le_antisym _ _
      (⊎_elim (λ e. rw e (le_none (f n))) (λ w. rw w.value (settled_least f h n w.plan l w.runs)) (distances_reached n l))
      (⊎_elim (λ e. rw e (le_none _)) (λ w. rw w.2 (distances_least n w.0 l (to_numbers t valid n w.0 w.1))) (h.sound n l))

  pub distances_goal : (n : ℕ) → n < state_count t.variables → all_hold t.goal (state_at t.variables n) ≡ true → get_or (distances t) n none ≡ some no_steps
  distances_goal n l e =
      le_antisym _ _ (subst (λ (x : Total). Le (get_or (distances t) n none) (some x)) (total_none t) (distances_least n [] l e)) (no_steps_le _)

  pub distances_closed : (a n : ℕ) → a < action_count t → n < state_count t.variables → applicable (action_of t a) (state_at t.variables n) ≡ true
      → Le (get_or (distances t) n none) (step_to (action_of t a) (get_or (distances t) (next_state t a n) none))
  distances_closed a n h l e =
      ⊎_elim
      (λ z. subst (λ (x : Distance). Le (get_or (distances t) n none) x) (sym (ap (step_to (action_of t a)) z ∙ step_to_none (action_of t a))) (le_none _))
      (λ w.
      subst (λ (x : Distance). Le (get_or (distances t) n none) x) (sym (ap (step_to (action_of t a)) w.value ∙ step_total t a w.plan))
      (distances_least n (a ∷ w.plan) l (h, e, w.runs)))
      (distances_reached (next_state t a n) (next_below t valid a n))

  pub distances_settled : Settled t (λ n. get_or (distances t) n none)
  distances_settled =
      record {
        sound = λ n l. ⊎_elim inl (λ w. inr (w.plan, to_states t valid n w.plan w.runs, w.value)) (distances_reached n l);
        goals = distances_goal;
        closed = distances_closed;
      }

  -- fewer steps than states, and no step costs more than the dearest action may
  some_total : (n : ℕ) (x : Total) → n < state_count t.variables → get_or (distances t) n none ≡ some x → (plan : List ℕ) × (x ≡ total_of t plan) × (length plan < state_count t.variables)
  some_total n x l e =
      let w = distances_some n x l e in
      let same_total : some x ≡ some (total_of t w.plan) = sym e ∙ w.value in
      (w.plan, cc, w.short)

  pub steps_few : (n : ℕ) (x : Total) → n < state_count t.variables → get_or (distances t) n none ≡ some x → x.steps < state_count t.variables
  steps_few n x l e =
      let w = some_total n x l e in
      omega (arith, ap (λ (y : Total). y.steps) w.1, total_steps t w.0, w.2)

  total_few : (plan : List ℕ) → (total_of t plan).minutes ≤ 1000000 * (total_of t plan).steps
  unfolding total_of add_step no_steps
  total_few [] = omega arith
  total_few (a ∷ plan) = omega (arith, (valid.action a).cost, total_few plan)

  pub minutes_few : (n : ℕ) (x : Total) → n < state_count t.variables → get_or (distances t) n none ≡ some x → x.minutes ≤ 1000000 * x.steps
  minutes_few n x l e =
      let w = some_total n x l e in
      rw w.1 (total_few w.0)
