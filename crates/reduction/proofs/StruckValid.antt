-- The task with chosen actions alone is accepted where the task is, and its file is no longer.
use Prim.Native.Nat.{ℕ, ◌+◌, ◌≤◌}
use mathlib.Core.Path.{◌≡◌, refl, ap, subst⁻¹, ◌∙◌}
use mathlib.Core.Bool.{Bool, true}
use mathlib.Core.List.{List, [], ◌∷◌}
use native.Mathlib.Omega.{arith}
use lib.ListN.{length}
use Rattle.files.specs.Accepted.{valid_pairs, valid_action, accepted_task}
use Rattle.files.specs.Below.{all_of}
use Rattle.files.specs.Task.{Pair, Action, Task, action, action_count, action_of}
use Rattle.files.specs.TaskFile.{action_bytes, task_records, task_file}
use Rattle.files.proofs.CountOrder.{count_most}
use Rattle.files.proofs.Done.{facts}
use Rattle.files.proofs.Lengths.{signed_length, task_records_length}
use Rattle.files.proofs.Valid.{Valid, all_anywhere, task_valid}
use Rattle.reduction.specs.ReducedBy.{kept_actions}
use Rattle.reduction.specs.Turns.{struck_to}
use Rattle.reduction.proofs.KeptActions.{original_of, chosen_count, chosen_action}
use Rattle.reduction.proofs.ReducedLength.{actions_sum, chosen_sum}
use Rattle.reduction.proofs.ReducedValid.{all_places}
use Rattle.reduction.proofs.StruckCorresponds.{struck_chooses}

-- variables and goal stay
struck_variables : (t : Task) (R : ℕ → Bool) → (struck_to t R).variables ≡ t.variables
unfolding struck_to
struck_variables t R = refl

struck_goal : (t : Task) (R : ℕ → Bool) → (struck_to t R).goal ≡ t.goal
unfolding struck_to
struck_goal t R = refl

module _ (t : Task) (R : ℕ → Bool) where
  struck_actions_few : action_count (struck_to t R) ≤ action_count t
  struck_actions_few = omega (arith, chosen_count (struck_chooses t R), count_most (action_count t) R)

  struck_actions_length : length (action_bytes (struck_to t R).actions) ≤ length (action_bytes t.actions)
  unfolding struck_to kept_actions
  struck_actions_length = omega (arith, chosen_sum (action_of t) R (action_count t), actions_sum t.actions)

  pub struck_file_length : (signer : ℕ) → length (task_file (struck_to t R) signer) ≤ length (task_file t signer)
  unfolding task_file
  struck_file_length signer =
      omega (
        arith,
        signed_length signer (task_records (struck_to t R)),
        signed_length signer (task_records t),
        task_records_length (struck_to t R),
        task_records_length t,
        same_variables,
        same_goal,
        struck_actions_length,
      )
    where
      same_variables : length (struck_to t R).variables ≡ length t.variables
      same_variables = ap length (struck_variables t R)

      same_goal : length (struck_to t R).goal ≡ length t.goal
      same_goal = ap length (struck_goal t R)

  -- pairs of the one are pairs of the other
  struck_pairs : (low : ℕ) (ps : List Pair) → valid_pairs (struck_to t R) low ps ≡ valid_pairs t low ps
  unfolding valid_pairs struck_to
  struck_pairs low [] = refl
  struck_pairs low (p ∷ ps) = rw (struck_pairs (p.variable + 1) ps) refl

  struck_action : (a : Action) → valid_action (struck_to t R) a ≡ valid_action t a
  unfolding valid_action
  struck_action a = rw (struck_pairs 0 a.conditions, struck_pairs 0 a.effects) refl

  struck_actions_valid : Valid t → all_of (valid_action (struck_to t R)) (struck_to t R).actions ≡ true
  unfolding valid_action valid_pairs
  struck_actions_valid ok =
      all_places (valid_action (struck_to t R)) (struck_to t R).actions (action 0 [] [])
      (λ i l.
      subst⁻¹ (λ (a : Action). valid_action (struck_to t R) a ≡ true) (chosen_action (struck_chooses t R) i l)
      (struck_action (action_of t (original_of t R i)) ∙ all_anywhere (valid_action t) t.actions (action 0 [] []) (original_of t R i) ok.actions refl))

  pub struck_accepted : accepted_task t ≡ true → accepted_task (struck_to t R) ≡ true
  unfolding accepted_task struck_to
  struck_accepted e =
      let ok = task_valid t e in
      simp facts (
        ok.variables_few,
        (
          omega (arith, struck_actions_few, ok.actions_few),
          (
            ok.variables,
            (
              ok.goal_few,
              (
                struck_pairs 0 t.goal ∙ ok.goal,
                (struck_actions_valid ok, omega (arith, struck_file_length 1, ok.file)),
              ),
            ),
          ),
        ),
      )
