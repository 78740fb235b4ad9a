-- The reduced task is no longer than the task: at most as many variables, actions and pairs, and at most as many bytes.
use Prim.Native.Nat.{ℕ, zero, suc, ◌+◌, ◌≤◌}
use mathlib.Core.Path.{◌≡◌, refl}
use mathlib.Core.Bool.{Bool}
use mathlib.Core.List.{List, [], ◌∷◌, ◌++◌, map}
use native.Mathlib.Omega.{arith}
use lib.ListN.{length, get_or, length-append}
use Rattle.files.specs.Below.{sum_below, chosen_below}
use Rattle.files.specs.Records.{record_bytes}
use Rattle.files.specs.Task.{Pair, Action, Task, pair, action, variable_count, action_count, action_of}
use Rattle.files.specs.TaskFile.{action_body, action_bytes, task_records, task_file}
use Rattle.files.proofs.Logic.{cond_case}
use Rattle.files.proofs.Lengths.{record_bytes_length, signed_length, action_body_length, task_records_length}
use Rattle.files.proofs.CountOrder.{count_most}
use Rattle.reduction.specs.Named.{kept_variable}
use Rattle.reduction.specs.Renumber.{new_variable, new_value}
use Rattle.reduction.specs.ReducedBy.{kept_actions, reduced_pairs, reduced_action, reduced_by}
use Rattle.reduction.proofs.KeptVariables.{reduced_variables}
use Rattle.reduction.proofs.KeptActions.{reduced_chooses, chosen_count}

-- sums below a bound
sum_first : (f : ℕ → ℕ) (n : ℕ) → sum_below (suc n) f ≡ f 0 + sum_below n (λ i. f (suc i))
sum_first f zero = refl
sum_first f (suc n) = omega (arith, sum_first f n)

sum_mono : (f g : ℕ → ℕ) (n : ℕ) → ((i : ℕ) → f i ≤ g i) → sum_below n f ≤ sum_below n g
sum_mono f g zero h = omega arith
sum_mono f g (suc n) h = omega (arith, h n, sum_mono f g n h)

-- the bytes of an action's record, and of the records of a list of actions
abbrev record_length : Action → ℕ
record_length a = length (record_bytes 4 (action_body a))

actions_first : (a : Action) (rest : List Action) → length (action_bytes (a ∷ rest)) ≡ record_length a + length (action_bytes rest)
unfolding action_bytes
actions_first a rest = length-append (record_bytes 4 (action_body a)) (action_bytes rest)

pub actions_sum : (actions : List Action) → length (action_bytes actions) ≡ sum_below (length actions) (λ i. record_length (get_or actions i (action 0 [] [])))
unfolding action_bytes
actions_sum [] = refl
actions_sum (a ∷ rest) =
    omega (arith, actions_first a rest, actions_sum rest, sum_first (λ i. record_length (get_or (a ∷ rest) i (action 0 [] []))) (length rest))

pub chosen_sum : (f : ℕ → Action) (K : ℕ → Bool) (n : ℕ) → length (action_bytes (map f (chosen_below n K))) ≤ sum_below n (λ i. record_length (f i))
unfolding action_bytes
chosen_sum f K zero = omega arith
chosen_sum f K (suc n) =
    cond_case
    (λ (last : List ℕ). length (action_bytes (map f (chosen_below n K ++ last))) ≤ record_length (f n) + sum_below n (λ i. record_length (f i)))
    (K n)
    (n ∷ [])
    []
    (λ k. omega (arith, appended (chosen_below n K) (n ∷ []), actions_first (f n) [], chosen_sum f K n))
    (λ k. omega (arith, appended (chosen_below n K) [], chosen_sum f K n))
  where
    appended : (xs ys : List ℕ) → length (action_bytes (map f (xs ++ ys))) ≡ length (action_bytes (map f xs)) + length (action_bytes (map f ys))
    appended [] ys = omega arith
    appended (x ∷ xs) ys = omega (arith, actions_first (f x) (map f (xs ++ ys)), actions_first (f x) (map f xs), appended xs ys)

module _ (t : Task) (A : ℕ → Bool) where
  pub reduced_variables_few : variable_count (reduced_by t A) ≤ variable_count t
  reduced_variables_few = omega (arith, reduced_variables t A, count_most (variable_count t) (kept_variable t A))

  pub reduced_actions_few : action_count (reduced_by t A) ≤ action_count t
  reduced_actions_few = omega (arith, chosen_count (reduced_chooses t A), count_most (action_count t) A)

  pub reduced_pairs_few : (ps : List Pair) → length (reduced_pairs t A ps) ≤ length ps
  unfolding reduced_pairs
  reduced_pairs_few [] = omega arith
  reduced_pairs_few (p ∷ ps) =
      cond_case
      (λ (l : List Pair). length l ≤ suc (length ps))
      (kept_variable t A p.variable)
      (pair (new_variable t A p.variable) (new_value t A p.variable p.value) ∷ reduced_pairs t A ps)
      (reduced_pairs t A ps)
      (λ k. omega (arith, reduced_pairs_few ps))
      (λ k. omega (arith, reduced_pairs_few ps))

  pub reduced_goal_few : length (reduced_by t A).goal ≤ length t.goal
  unfolding reduced_by
  reduced_goal_few = reduced_pairs_few t.goal

  reduced_record : (a : Action) → record_length (reduced_action t A a) ≤ record_length a
  unfolding reduced_action
  reduced_record a =
      let reduced = reduced_action t A a in
      omega (
        arith,
        record_bytes_length 4 (action_body reduced),
        record_bytes_length 4 (action_body a),
        action_body_length reduced,
        action_body_length a,
        reduced_pairs_few a.conditions,
        reduced_pairs_few a.effects,
      )

  reduced_actions_length : length (action_bytes (reduced_by t A).actions) ≤ length (action_bytes t.actions)
  unfolding reduced_by kept_actions
  reduced_actions_length =
      omega (
        arith,
        chosen_sum (λ a. reduced_action t A (action_of t a)) A (action_count t),
        sum_mono (λ a. record_length (reduced_action t A (action_of t a))) (λ a. record_length (action_of t a)) (action_count t) (λ a. reduced_record (action_of t a)),
        actions_sum t.actions,
      )

  -- the file of the reduced task
  pub reduced_file_length : (signer : ℕ) → length (task_file (reduced_by t A) signer) ≤ length (task_file t signer)
  unfolding task_file
  reduced_file_length signer =
      omega (
        arith,
        signed_length signer (task_records (reduced_by t A)),
        signed_length signer (task_records t),
        task_records_length (reduced_by t A),
        task_records_length t,
        reduced_variables_few,
        reduced_goal_few,
        reduced_actions_length,
      )
