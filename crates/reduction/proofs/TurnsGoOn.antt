-- The loop of turns: what is left to take is what the definition has left; a turn lowers the measure, or is the last.
use Prim.Native.Nat.{ℕ, suc, ◌+◌, ◌-◌, ◌≤◌, ◌<◌}
use mathlib.Core.Path.{◌≡◌, sym, ap, ap₂, ◌∙◌}
use mathlib.Core.Bool.{Bool, true, false, cond}
use mathlib.Core.List.{List}
use native.Mathlib.Omega.{arith}
use Rattle.files.specs.Accepted.{accepted_task}
use Rattle.files.specs.Dense.{held, held_origin}
use Rattle.files.specs.declared.arrays.Arrays.{Arrays}
use Rattle.files.specs.declared.arrays.OriginArrays.{OriginArrays}
use Rattle.files.specs.OriginFile.{Origin}
use Rattle.files.specs.Task.{Task, action_count, fact_count}
use Rattle.files.proofs.HeldTask.{actions_held}
use Rattle.files.proofs.Logic.{clash, split_le}
use Rattle.files.proofs.Valid.{task_valid}
use Rattle.marking.specs.Dense.{Final}
use Rattle.marking.proofs.Rounding.{facts_few}
use Rattle.reduction.specs.Composed.{Owns}
use Rattle.reduction.specs.Filled.{Marks}
use Rattle.reduction.specs.ReducedBy.{kept_at}
use Rattle.reduction.specs.Turns.{turn_task, turn_origin, composed, same_task, Turning, turns_from, turning}
use Rattle.reduction.specs.TurnsHeld.{OriginInside, TurnsReady, TurnLeaves, TurnsLeave}
use Rattle.reduction.proofs.SameTask.{same_task_equal, same_task_says}
use Rattle.reduction.proofs.TurnsFall.{turn_leaves}
use Rattle.reduction.proofs.TurnsRight.{turn_accepted}
use Rattle.reduction.proofs.Weights.{measure, measure_most}

abbrev pub limit : Task → ℕ
limit t = action_count t + fact_count t + 1

-- after so many turns on the task t
pub record GoesOn (t : Task) (d : Arrays) (o : OriginArrays) (kept : List ℕ) (turns : ℕ) : Type 0 where
  pub accepted : accepted_task (held d) ≡ true
  pub marks : Marks kept d.actions (kept_at (held d) 4)
  pub inside : OriginInside d o
  pub within : turns ≤ limit t
  pub falls : measure (held d) < limit t - turns
  pub rest : turns_from (limit t - turns) (held d) (held_origin o) turns ≡ turning t

-- the marks of level 4
pub final_marks : (d : Arrays) (actions facts unlinked : List ℕ) (rounds : ℕ) → Final (held d) 4 actions facts unlinked rounds → Marks actions d.actions (kept_at (held d) 4)
unfolding kept_at
final_marks d actions facts unlinked rounds k a l = k.action a (omega (arith, actions_held d))

-- before the first turn
pub begins : (d : Arrays) (o : OriginArrays) (kept : List ℕ) → TurnsReady d kept → Owns d o → GoesOn (held d) d o kept 0
unfolding turning
begins d o kept ready own =
    let t = held d in
    record {
      accepted = ready.accepted;
      marks = ready.marks;
      inside = record { within = own.within; values = own.values };
      within = omega arith;
      falls = omega (arith, measure_most t);
      rest =
          ap (λ (n : ℕ). turns_from n t (held_origin o) 0) (let e : limit t - 0 ≡ limit t = omega arith in e)
          ∙ ap (λ (x : Origin). turns_from (limit t) t x 0) own.origins;
    }

-- a turn from there on
module _ (t : Task) (d : Arrays) (o : OriginArrays) (kept : List ℕ) (turns : ℕ) (g : GoesOn t d o kept turns) where
  -- there is one to take
  left : (n : ℕ) × (limit t - turns ≡ suc n)
  left = (limit t - turns - 1, omega (arith, g.falls))

  one_more : (n : ℕ) → limit t - turns ≡ suc n → cond (same_task (held d) (turn_task (held d))) (record { task = held d; origin = held_origin o; turns = turns + 1 }) (turns_from n (turn_task (held d)) (composed (held_origin o) (turn_origin (held d))) (turns + 1)) ≡ turning t
  unfolding turns_from
  one_more n e = sym (ap (λ (k : ℕ). turns_from k (held d) (held_origin o) turns) e) ∙ g.rest

  module _ (d' : Arrays) (o' : OriginArrays) (same : Bool) (k : TurnLeaves (held d) (held_origin o) d' o' same) where
    -- it is the last
    pub ends : same ≡ true → TurnsLeave t d' o' (turns + 1)
    ends e =
        let n = left.0 in
        let last : same_task (held d) (turn_task (held d)) ≡ true = sym k.unchanged ∙ e in
        let is : record { task = held d; origin = held_origin o; turns = turns + 1 } ≡ turning t = rw last at one_more n left.1 in
        record {
          task = k.task ∙ sym (same_task_says (held d) (turn_task (held d)) last) ∙ ap (λ (x : Turning). x.task) is;
          origin = k.origin ∙ ap (λ (b : Bool). cond b (held_origin o) (composed (held_origin o) (turn_origin (held d)))) e ∙ ap (λ (x : Turning). x.origin) is;
          count = ap (λ (x : Turning). x.turns) is;
          within = k.inside.within;
        }

    -- it leaves an accepted task
    pub next_accepted : accepted_task (held d') ≡ true
    next_accepted = ap accepted_task k.task ∙ turn_accepted (held d) g.accepted

    -- it is not the last, and marks are anew
    pub goes_on_lem : same ≡ false → (kept' : List ℕ) → Marks kept' d'.actions (kept_at (held d') 4) → GoesOn t d' o' kept' (turns + 1)
    goes_on_lem e kept' marks =
        let n = left.0 in
        let other : same_task (held d) (turn_task (held d)) ≡ false = sym k.unchanged ∙ e in
        let ok = task_valid (held d) g.accepted in
        let lower : measure (turn_task (held d)) < measure (held d) =
        split_le (measure (held d)) (measure (turn_task (held d)))
        (λ l. clash (same_task_equal (held d) (turn_task (held d)) (sym (turn_leaves (held d) ok l))) other)
        (λ l. l) in
        let is : turns_from n (turn_task (held d)) (composed (held_origin o) (turn_origin (held d))) (turns + 1) ≡ turning t = rw other at one_more n left.1 in
        let from : held_origin o' ≡ composed (held_origin o) (turn_origin (held d)) =
        k.origin ∙ ap (λ (b : Bool). cond b (held_origin o) (composed (held_origin o) (turn_origin (held d)))) e in
        let fuel : limit t - (turns + 1) ≡ n = omega (arith, left.1) in
        record {
          accepted = next_accepted;
          marks = marks;
          inside = k.inside;
          within = omega (arith, g.falls);
          falls = omega (arith, g.falls, lower, ap measure k.task);
          rest =
              ap (λ (m : ℕ). turns_from m (held d') (held_origin o') (turns + 1)) fuel
              ∙ ap₂ (λ (u : Task) (x : Origin). turns_from n u x (turns + 1)) k.task from
              ∙ is;
        }

  -- turns are few
  pub turns_less : limit t - (turns + 1) < limit t - turns
  turns_less = omega (arith, g.falls)

  pub turns_few : accepted_task t ≡ true → turns < 4096
  turns_few e = let ok = task_valid t e in omega (arith, g.falls, ok.actions_few, facts_few t ok)
