-- Turns end within their bound with a task that one turn more leaves, whose best plans are those of the first task.
use Prim.Native.Nat.{ℕ, zero, suc, ◌+◌, ◌≤◌, ◌<◌}
use mathlib.Core.Path.{◌≡◌, sym, subst, subst⁻¹}
use mathlib.Core.Bool.{true}
use mathlib.Core.List.{List, map}
use native.Mathlib.Omega.{arith}
use lib.ListN.{length, get_or}
use Rattle.files.specs.Accepted.{accepted_task}
use Rattle.files.specs.OriginFile.{Origin}
use Rattle.files.specs.Task.{Task, variable_count, action_count, size_of, fact_count}
use Rattle.files.specs.TaskFile.{task_file}
use Rattle.files.proofs.BelowLaws.{chosen}
use Rattle.files.proofs.Logic.{clash, split_le, cond_case}
use Rattle.files.proofs.Valid.{Valid, task_valid}
use Rattle.plans.specs.Plan.{IsPlan}
use Rattle.plans.proofs.RunLaws.{plan_runs}
use Rattle.reduction.specs.Named.{kept_variable}
use Rattle.reduction.specs.Preserved.{Preserves}
use Rattle.reduction.specs.Reach.{reached}
use Rattle.reduction.specs.ReducedBy.{kept_actions, reduced_by, origin_by, kept_at}
use Rattle.reduction.specs.Renumber.{new_variable}
use Rattle.reduction.specs.Turns.{struck_to, turn_reduced, turn_task, originals, turn_origin, composed, own_origin, same_task, Turning, turns_from, turning}
use Rattle.reduction.specs.TurnsRight.{TurnsRight}
use Rattle.reduction.proofs.Composition.{preserves_self, preserves_composes, preserves_alike, looked_up_own, looked_up_twice}
use Rattle.reduction.proofs.KeptActions.{original_of, chosen_long}
use Rattle.reduction.proofs.KeptVariables.{reduced_variables, reduced_size}
use Rattle.reduction.proofs.OriginFits.{OriginFits, fits_accepted, composed_fits}
use Rattle.reduction.proofs.Preservation.{Suffices, corresponds_preserves, kept_preserves}
use Rattle.reduction.proofs.ReachPlans.{plan_reached}
use Rattle.reduction.proofs.ReducedLength.{reduced_file_length}
use Rattle.reduction.proofs.ReducedValid.{reduced_accepted, two_values}
use Rattle.reduction.proofs.SameTask.{same_task_equal, same_task_says}
use Rattle.reduction.proofs.StruckCorresponds.{struck_chooses, struck_corresponds}
use Rattle.reduction.proofs.StruckValid.{struck_accepted, struck_file_length}
use Rattle.reduction.proofs.TurnOrigins.{turn_fits, own_fits}
use Rattle.reduction.proofs.TurnsFall.{turn_leaves}
use Rattle.reduction.proofs.Weights.{measure, measure_most}

-- reached actions suffice, since plans use no others
reached_suffices : (t : Task) → Valid t → Suffices t (reached t)
reached_suffices t ok =
    record {
      plan = λ p h. (p, h, plan_reached t ok p (plan_runs t p h));
      best = λ p b. plan_reached t ok p (plan_runs t p b.is_plan);
      among = λ p h least. record { is_plan = h; least = λ q k. least q k (plan_reached t ok q (plan_runs t q k)) };
    }

pub striking_preserves : (t : Task) → Valid t → Preserves t (struck_to t (reached t)) (map (original_of t (reached t)))
striking_preserves t ok = corresponds_preserves t (struck_to t (reached t)) (reached t) (struck_corresponds t (reached t)) (reached_suffices t ok)

-- a turn
module _ (t : Task) (accepted : accepted_task t ≡ true) where
  abbrev r : Task
  r = turn_reduced t

  pub reduced_is_accepted : accepted_task r ≡ true
  unfolding turn_reduced
  reduced_is_accepted = reduced_accepted t (kept_at t 4) accepted

  pub turn_accepted : accepted_task (turn_task t) ≡ true
  unfolding turn_task
  turn_accepted = struck_accepted r (reached r) reduced_is_accepted

  turn_no_longer : (signer : ℕ) → length (task_file (turn_task t) signer) ≤ length (task_file t signer)
  unfolding turn_task turn_reduced
  turn_no_longer signer = omega (arith, struck_file_length r (reached r) signer, reduced_file_length t (kept_at t 4) signer)

  -- the numbers of a plan are looked up one after the other
  turn_numbers_lem : (q : List ℕ) → IsPlan (turn_task t) q → map (original_of t (kept_at t 4)) (map (original_of r (reached r)) q) ≡ originals (turn_origin t) q
  unfolding originals turn_origin origin_by turn_task
  turn_numbers_lem q h =
      looked_up_twice (kept_actions t (kept_at t 4)) (kept_actions r (reached r)) q
      (λ i l. omega (arith, h.numbers i l, chosen_long (struck_chooses r (reached r))))

  pub turn_preserves : Preserves t (turn_task t) (originals (turn_origin t))
  unfolding turn_task turn_reduced
  turn_preserves =
      preserves_alike t (turn_task t) (λ q. map (original_of t (kept_at t 4)) (map (original_of r (reached r)) q)) (originals (turn_origin t)) turn_numbers_lem
      (preserves_composes t r (turn_task t) (map (original_of t (kept_at t 4))) (map (original_of r (reached r)))
      (kept_preserves t 4 (task_valid t accepted))
      (striking_preserves r (task_valid r reduced_is_accepted)))

  -- a turn leaves variables of two values and more
  pub turn_two_values : (v : ℕ) → v < variable_count (turn_task t) → 2 ≤ size_of (turn_task t) v
  unfolding turn_task struck_to turn_reduced new_variable
  turn_two_values v h =
      let A = kept_at t 4 in
      let c = chosen (kept_variable t A) (variable_count t) v (omega (arith, reduced_variables t A)) in
      subst (λ (n : ℕ). 2 ≤ size_of (reduced_by t A) n) c.rank
      (subst⁻¹ (λ (n : ℕ). 2 ≤ n) (reduced_size t A c.number c.below c.passes) (two_values t A (task_valid t accepted) c.number c.below c.passes))

-- what holds after every turn
record Turned (first t : Task) (o : Origin) : Type 0 where
  accepted : accepted_task t ≡ true
  no_longer : (signer : ℕ) → length (task_file t signer) ≤ length (task_file first signer)
  fits : OriginFits first t o
  preserves : Preserves first t (originals o)

composed_numbers : (o p : Origin) (q : List ℕ) → ((i : ℕ) → i < length q → get_or q i 0 < length p.actions) → originals o (originals p q) ≡ originals (composed o p) q
unfolding originals composed
composed_numbers o p q h = looked_up_twice o.actions p.actions q h

module _ (first : Task) (given : accepted_task first ≡ true) where
  own_preserves : Preserves first first (originals (own_origin first))
  unfolding originals own_origin
  own_preserves =
      preserves_alike first first (λ q. q) (originals (own_origin first)) (λ q h. looked_up_own (action_count first) q h.numbers) (preserves_self first)

  turned_first : Turned first first (own_origin first)
  turned_first =
      record {
        accepted = given;
        no_longer = λ signer. omega arith;
        fits = own_fits first;
        preserves = own_preserves;
      }

  turned_next : (t : Task) (o : Origin) → Turned first t o → Turned first (turn_task t) (composed o (turn_origin t))
  turned_next t o k =
      record {
        accepted = turn_accepted t k.accepted;
        no_longer = λ signer. omega (arith, turn_no_longer t k.accepted signer, k.no_longer signer);
        fits = composed_fits first t (turn_task t) o (turn_origin t) k.fits (turn_fits t);
        preserves =
            preserves_alike first (turn_task t) (λ q. originals o (originals (turn_origin t) q)) (originals (composed o (turn_origin t)))
            (λ q h. composed_numbers o (turn_origin t) q (λ i l. omega (arith, h.numbers i l, (turn_fits t).actions_long)))
            (preserves_composes first t (turn_task t) (originals o) (originals (turn_origin t)) k.preserves (turn_preserves t k.accepted));
      }

  -- what turns from a task on come to
  record Ends (t : Task) (turns : ℕ) (k : Turning) : Type 0 where
    turned : Turned first k.task k.origin
    final : turn_task k.task ≡ k.task
    some_turn : turns + 1 ≤ k.turns
    few_turns : k.turns ≤ turns + measure t + 1

  turns_end : (limit : ℕ) (t : Task) (o : Origin) (turns : ℕ) → Turned first t o → measure t < limit → Ends t turns (turns_from limit t o turns)
  unfolding turns_from
  turns_end zero t o turns k h = absurd (omega arith)
  turns_end (suc limit) t o turns k h =
      cond_case
      (Ends t turns)
      (same_task t (turn_task t))
      (record { task = t; origin = o; turns = turns + 1 })
      (turns_from limit (turn_task t) (composed o (turn_origin t)) (turns + 1))
      (λ same. record { turned = k; final = sym (same_task_says t (turn_task t) same); some_turn = omega arith; few_turns = omega arith })
      (λ other.
      let valid = task_valid t k.accepted in
      split_le (measure t) (measure (turn_task t))
      (λ l. clash (same_task_equal t (turn_task t) (sym (turn_leaves t valid l))) other)
      (λ l.
      let more = turns_end limit (turn_task t) (composed o (turn_origin t)) (turns + 1) (turned_next t o k) (omega arith) in
      record {
        turned = more.turned;
        final = more.final;
        some_turn = omega (arith, more.some_turn);
        few_turns = omega (arith, more.few_turns);
      }))

pub turns_right : (t : Task) → accepted_task t ≡ true → TurnsRight t
unfolding turning
turns_right t e =
    let k = turning t in
    let ends = turns_end t e (action_count t + fact_count t + 1) t (own_origin t) 0 (turned_first t e) (omega (arith, measure_most t)) in
    record {
      some_turn = omega (arith, ends.some_turn);
      few_turns = omega (arith, ends.few_turns, measure_most t);
      final = ends.final;
      two_values =
          λ v h.
          subst (λ (u : Task). v < variable_count u → 2 ≤ size_of u v) ends.final (turn_two_values k.task ends.turned.accepted v) h;
      accepted = ends.turned.accepted;
      no_longer = ends.turned.no_longer;
      origin_accepted = fits_accepted t k.task k.origin ends.turned.fits (task_valid t e) (task_valid k.task ends.turned.accepted);
      origin_actions = ends.turned.fits.actions_long;
      preserves = ends.turned.preserves;
    }
