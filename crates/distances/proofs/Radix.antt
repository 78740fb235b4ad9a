-- Laws of state numbers: the two ways between states and numbers are inverse, and the start and each action keep to them.
use Prim.Native.Nat.{ℕ, zero, suc, ◌+◌, ◌*◌, ◌/◌, ◌%◌, ◌≤◌, ◌<◌}
use mathlib.Core.Path.{◌≡◌, refl, sym, ap, subst, fun_ext, ◌∙◌}
use mathlib.Core.List.{List, [], ◌∷◌}
use native.Mathlib.Omega.{arith}
use native.Mathlib.Nat.{mod-lt, mod-eq_of_lt, mod-add-div, div-eq_of_lt, add-mul-div_left, add-mul-mod_self_left, div-lt_iff_lt-mul, mul_comm, mul-le-mul_left, zero-add, mul-suc}
use lib.ListN.{length, get_or, get_or-eq_default}
use Rattle.files.specs.Task.{Variable, Action, Task, variable, action_of, value_in}
use Rattle.files.proofs.Logic.{split_option}
use Rattle.files.proofs.Valid.{ValidAction, Valid, value_valid}
use Rattle.plans.specs.State.{State, start_state, apply}
use Rattle.plans.proofs.StateLaws.{apply_sets, apply_leaves}
use Rattle.distances.specs.States.{state_count, state_number, state_at}
use Rattle.distances.specs.Table.{next_state, start_number}

-- every domain has a value
abbrev pub Sizes : List Variable → Type 0
Sizes vs = (v : ℕ) → v < length vs → 1 ≤ (get_or vs v (variable 0 0)).size

-- each value is in its domain; past the last variable there is 0
abbrev pub InDomains : List Variable → State → Type 0
InDomains vs s = (v : ℕ) → v < length vs → s v < (get_or vs v (variable 0 0)).size

abbrev pub ZeroPast : List Variable → State → Type 0
ZeroPast vs s = (v : ℕ) → length vs ≤ v → s v ≡ 0

-- one digit
mod_low : (d y q : ℕ) → y < d → (y + d * q) % d ≡ y
mod_low d y q h = add-mul-mod_self_left y d q ∙ mod-eq_of_lt h

div_low : (d y q : ℕ) → y < d → (y + d * q) / d ≡ q
div_low d y q h = add-mul-div_left y q (omega arith) ∙ ap (λ (n : ℕ). n + q) (div-eq_of_lt h) ∙ zero-add q

div_below : (d n x : ℕ) → 0 < d → x < d * n → x / d < n
div_below d n x h l = (div-lt_iff_lt-mul h).1 (subst (λ (m : ℕ). x < m) (mul_comm d n) l)

low_below : (d n y q : ℕ) → y < d → q < n → y + d * q < d * n
low_below d n y q h l = omega (arith, mul-le-mul_left d l, mul-suc d q)

rest_sizes : (x : Variable) (xs : List Variable) → Sizes (x ∷ xs) → Sizes xs
rest_sizes x xs h v l = h (suc v) (omega arith)

pub number_below : (vs : List Variable) (s : State) → InDomains vs s → state_number vs s < state_count vs
unfolding state_count state_number
number_below [] s h = omega arith
number_below (x ∷ xs) s h =
    low_below x.size (state_count xs) (s 0) (state_number xs (λ v. s (suc v))) (h 0 (omega arith))
    (number_below xs (λ v. s (suc v)) (λ v l. h (suc v) (omega arith)))

-- the state of a number is in the domains, and 0 past them
pub state_in : (vs : List Variable) (n : ℕ) → Sizes vs → InDomains vs (state_at vs n)
unfolding state_at
state_in [] n h v l = absurd (omega arith)
state_in (x ∷ xs) n h zero l = mod-lt n (h 0 (omega arith))
state_in (x ∷ xs) n h (suc v) l = state_in xs (n / x.size) (rest_sizes x xs h) v (omega arith)

pub state_past : (vs : List Variable) (n : ℕ) → ZeroPast vs (state_at vs n)
unfolding state_at
state_past [] n v l = refl
state_past (x ∷ xs) n zero l = absurd (omega arith)
state_past (x ∷ xs) n (suc v) l = state_past xs (n / x.size) v (omega arith)

-- the two ways
pub number_of_state : (vs : List Variable) (n : ℕ) → Sizes vs → n < state_count vs → state_number vs (state_at vs n) ≡ n
unfolding state_count state_number state_at
number_of_state [] n h l = omega arith
number_of_state (x ∷ xs) n h l =
    ap (λ (m : ℕ). n % x.size + x.size * m)
    (number_of_state xs (n / x.size) (rest_sizes x xs h) (div_below x.size (state_count xs) n (h 0 (omega arith)) l))
    ∙ mod-add-div n x.size

value_of_number : (vs : List Variable) (s : State) → InDomains vs s → ZeroPast vs s → (v : ℕ) → state_at vs (state_number vs s) v ≡ s v
unfolding state_number state_at
value_of_number [] s h z v = sym (z v (omega arith))
value_of_number (x ∷ xs) s h z zero = mod_low x.size (s 0) (state_number xs (λ v. s (suc v))) (h 0 (omega arith))
value_of_number (x ∷ xs) s h z (suc v) =
    ap (λ (m : ℕ). state_at xs m v) (div_low x.size (s 0) (state_number xs (λ w. s (suc w))) (h 0 (omega arith)))
    ∙ value_of_number xs (λ w. s (suc w)) (λ w l. h (suc w) (omega arith)) (λ w l. z (suc w) (omega arith)) v

pub state_of_number : (vs : List Variable) (s : State) → InDomains vs s → ZeroPast vs s → state_at vs (state_number vs s) ≡ s
state_of_number vs s h z = fun_ext (value_of_number vs s h z)

-- an action's effects are in the domains
module _ (t : Task) (a : Action) (valid : ValidAction t a) (s : State) where
  pub apply_in : InDomains t.variables s → InDomains t.variables (apply a s)
  apply_in h v l =
      split_option (value_in a.effects v)
      (λ e. rw (apply_leaves a s v e) (h v l))
      (λ x e. rw (apply_sets a s v x e) (value_valid t 0 a.effects v x valid.effects e).inside)

  pub apply_past : ZeroPast t.variables s → ZeroPast t.variables (apply a s)
  apply_past h v l =
      split_option (value_in a.effects v)
      (λ e. apply_leaves a s v e ∙ h v l)
      (λ x e. absurd (omega (arith, (value_valid t 0 a.effects v x valid.effects e).known)))

module _ (t : Task) (valid : Valid t) where
  -- after any action
  next_in_lem : (a n : ℕ) → InDomains t.variables (apply (action_of t a) (state_at t.variables n))
  next_in_lem a n = apply_in t (action_of t a) (valid.action a) (state_at t.variables n) (state_in t.variables n valid.size_least)

  next_past : (a n : ℕ) → ZeroPast t.variables (apply (action_of t a) (state_at t.variables n))
  next_past a n = apply_past t (action_of t a) (valid.action a) (state_at t.variables n) (state_past t.variables n)

  pub next_below : (a n : ℕ) → next_state t a n < state_count t.variables
  unfolding next_state
  next_below a n = number_below t.variables (apply (action_of t a) (state_at t.variables n)) (next_in_lem a n)

  pub next_state_lem : (a n : ℕ) → state_at t.variables (next_state t a n) ≡ apply (action_of t a) (state_at t.variables n)
  unfolding next_state
  next_state_lem a n = state_of_number t.variables (apply (action_of t a) (state_at t.variables n)) (next_in_lem a n) (next_past a n)

  -- the start
  start_in : InDomains t.variables (start_state t)
  unfolding start_state
  start_in v l = valid.start v l

  pub start_below : start_number t < state_count t.variables
  unfolding start_number
  start_below = number_below t.variables (start_state t) start_in

  start_past : ZeroPast t.variables (start_state t)
  unfolding start_state
  start_past v l = ap (λ (x : Variable). x.start) (get_or-eq_default t.variables (variable 0 0) l)

  pub start_state_lem : state_at t.variables (start_number t) ≡ start_state t
  unfolding start_number
  start_state_lem = state_of_number t.variables (start_state t) start_in start_past
