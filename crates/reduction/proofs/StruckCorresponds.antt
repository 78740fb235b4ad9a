-- The task with chosen actions alone does with them what the task does, from the same states.
use Prim.Native.Nat.{ℕ}
use mathlib.Core.Path.{◌≡◌, refl, sym, ap}
use mathlib.Core.Bool.{Bool}
use Rattle.files.specs.Task.{Task, action_of}
use Rattle.plans.specs.State.{State, start_state, all_hold, applicable, apply}
use Rattle.reduction.specs.Turns.{struck_to}
use Rattle.reduction.proofs.KeptActions.{Chooses}
use Rattle.reduction.proofs.Correspondence.{Corresponds, alike_corresponds}

module _ (t : Task) (R : ℕ → Bool) where
  pub struck_chooses : Chooses t (struck_to t R) R (λ a. a)
  unfolding struck_to
  struck_chooses = record { actions = refl }

  struck_start : start_state t ≡ start_state (struck_to t R)
  unfolding start_state struck_to
  struck_start = refl

  struck_goal : (s r : State) → s ≡ r → all_hold (struck_to t R).goal r ≡ all_hold t.goal s
  unfolding struck_to
  struck_goal s r e = ap (all_hold t.goal) (sym e)

  pub struck_corresponds : Corresponds t (struck_to t R) R
  struck_corresponds =
      alike_corresponds t (struck_to t R) R (λ a. a) (λ s r. s ≡ r)
      (record {
        chooses = struck_chooses;
        start = struck_start;
        goal = struck_goal;
        applies = λ s r e a known kept. ap (applicable (action_of t a)) (sym e);
        step = λ s r e a known kept. ap (apply (action_of t a)) e;
        cost = λ a. refl;
      })
