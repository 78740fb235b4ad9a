-- The origins of a reduced task fit, and so do those of a task with chosen actions alone, of a turn, and a task's own.
use Prim.Native.Nat.{ℕ, zero, suc, ◌+◌, ◌<◌}
use mathlib.Core.Path.{◌≡◌, refl, sym, ap, subst, ◌∙◌}
use mathlib.Core.Bool.{Bool, true}
use mathlib.Core.List.{List, [], ◌∷◌, map}
use native.Mathlib.Omega.{arith}
use lib.ListN.{get_or, length-map}
use Rattle.files.specs.Below.{tabulate, tabulate_from, chosen_below}
use Rattle.files.specs.OriginFile.{VariableOrigin, Origin}
use Rattle.files.specs.Task.{Task, variable_count, action_count, size_of}
use Rattle.files.proofs.BelowLaws.{count_strict, chosen_length, chosen_at, Chosen, chosen, map_entry}
use Rattle.files.proofs.Tabulate.{tabulate_from_length, tabulate_entry}
use Rattle.reduction.specs.Named.{kept_variable}
use Rattle.reduction.specs.Reach.{reached}
use Rattle.reduction.specs.Renumber.{new_variable, new_value}
use Rattle.reduction.specs.ReducedBy.{kept_variables, kept_actions, reduced_by, origin_by, kept_at}
use Rattle.reduction.specs.Turns.{struck_to, turn_reduced, turn_task, originals, turn_origin, origin_at, own_origin}
use Rattle.reduction.proofs.KeptActions.{reduced_chooses, chosen_count}
use Rattle.reduction.proofs.KeptVariables.{reduced_variables, reduced_size}
use Rattle.reduction.proofs.OriginFits.{Rises, chosen_rises, rises_through, VariableFits, OriginFits}
use Rattle.reduction.proofs.ReducedValid.{new_value_inside}
use Rattle.reduction.proofs.StruckCorresponds.{struck_chooses}

-- the origins of the reduced task
module _ (t : Task) (A : ℕ → Bool) where
  abbrev K : ℕ → Bool
  K = kept_variable t A

  abbrev pub origin_of_variable : ℕ → VariableOrigin
  origin_of_variable v = record { variable = v; values = tabulate (size_of t v) (new_value t A v) }

  numbers : (ns : List ℕ) → map (λ o. o.variable) (map origin_of_variable ns) ≡ ns
  numbers [] = refl
  numbers (n ∷ ns) = ap (λ (l : List ℕ). n ∷ l) (numbers ns)

  -- the variable at a place
  pub reduced_entry : (i : ℕ) (c : Chosen K (variable_count t) i) → origin_at (origin_by t A) i ≡ origin_of_variable c.number
  unfolding origin_by kept_variables
  reduced_entry i c =
      map_entry origin_of_variable (chosen_below (variable_count t) K) i (record { variable = 0; values = [] }) 0
      (omega (arith, chosen_length K (variable_count t), c.rank, count_strict K (variable_count t) c.number c.below c.passes))
      ∙ ap origin_of_variable (ap (λ (p : ℕ). get_or (chosen_below (variable_count t) K) p 0) (sym c.rank) ∙ chosen_at K (variable_count t) c.number c.below c.passes)

  variable_fits : (v : ℕ) → v < variable_count t → K v ≡ true → VariableFits t (reduced_by t A) (new_variable t A v) (origin_of_variable v)
  variable_fits v known kept =
      let long = tabulate_from_length (new_value t A v) 0 (size_of t v) in
      record {
        long = long;
        inside =
            λ d l.
            let l' : d < size_of t v = omega (arith, long) in
            rw (tabulate_entry (new_value t A v) (size_of t v) d 0 l', reduced_size t A v known kept) (new_value_inside t A v d l');
      }

  pub reduced_fits : OriginFits t (reduced_by t A) (origin_by t A)
  unfolding origin_by kept_variables kept_actions new_variable
  reduced_fits =
      let n = variable_count t in
      record {
        actions_long = chosen_length A (action_count t) ∙ sym (chosen_count (reduced_chooses t A));
        actions_rise = chosen_rises A (action_count t);
        variables_long = length-map (chosen_below n K) origin_of_variable ∙ chosen_length K n ∙ sym (reduced_variables t A);
        variables_rise = subst (Rises n) (sym (numbers (chosen_below n K))) (chosen_rises K n);
        variable =
            λ i h.
            let c = chosen K n i (omega (arith, reduced_variables t A)) in
            subst (VariableFits t (reduced_by t A) i) (sym (reduced_entry i c))
            (subst (λ (k : ℕ). VariableFits t (reduced_by t A) k (origin_of_variable c.number)) c.rank (variable_fits c.number c.below c.passes));
      }

-- striking leaves variables and values
pub struck_fits : (t u : Task) (o : Origin) (R : ℕ → Bool) → OriginFits t u o → OriginFits t (struck_to u R) (record { variables = o.variables; actions = originals o (kept_actions u R) })
unfolding struck_to originals kept_actions
struck_fits t u o R fits =
    record {
      actions_long = length-map (chosen_below (action_count u) R) (λ n. get_or o.actions n 0) ∙ chosen_length R (action_count u) ∙ sym (chosen_count (struck_chooses u R));
      actions_rise =
          rises_through (action_count t) o.actions (chosen_below (action_count u) R) fits.actions_rise
          (subst (λ (n : ℕ). Rises n (chosen_below (action_count u) R)) (sym fits.actions_long) (chosen_rises R (action_count u)));
      variables_long = fits.variables_long;
      variables_rise = fits.variables_rise;
      variable = λ i h. let k = fits.variable i h in record { long = k.long; inside = k.inside };
    }

pub turn_fits : (t : Task) → OriginFits t (turn_task t) (turn_origin t)
unfolding turn_task turn_origin turn_reduced
turn_fits t = struck_fits t (reduced_by t (kept_at t 4)) (origin_by t (kept_at t 4)) (reached (reduced_by t (kept_at t 4))) (reduced_fits t (kept_at t 4))

-- a task's own
module _ (t : Task) where
  abbrev own_variable : ℕ → VariableOrigin
  own_variable v = record { variable = v; values = tabulate (size_of t v) (λ value. value) }

  counted_rise : (n : ℕ) → Rises n (tabulate n (λ i. i))
  counted_rise n =
      let long = tabulate_from_length (λ i. i) 0 n in
      record {
        below = λ i l. let l' : i < n = omega (arith, long) in rw (tabulate_entry (λ i. i) n i 0 l') l';
        rise =
            λ i j h l.
            let l' : j < n = omega (arith, long) in
            rw (tabulate_entry (λ i. i) n i 0 (omega arith), tabulate_entry (λ i. i) n j 0 l') h;
      }

  own_numbers : (from n : ℕ) → map (λ o. o.variable) (tabulate_from from n own_variable) ≡ tabulate_from from n (λ i. i)
  own_numbers from zero = refl
  own_numbers from (suc n) = ap (λ (l : List ℕ). from ∷ l) (own_numbers (from + 1) n)

  pub own_fits : OriginFits t t (own_origin t)
  unfolding own_origin
  own_fits =
      let n = variable_count t in
      record {
        actions_long = tabulate_from_length (λ a. a) 0 (action_count t);
        actions_rise = counted_rise (action_count t);
        variables_long = tabulate_from_length own_variable 0 n;
        variables_rise = subst (Rises n) (sym (own_numbers 0 n)) (counted_rise n);
        variable =
            λ i h.
            let long = tabulate_from_length (λ value. value) 0 (size_of t i) in
            subst (VariableFits t t i) (sym (tabulate_entry own_variable n i (record { variable = 0; values = [] }) h))
            (record {
              long = long;
              inside = λ d l. let l' : d < size_of t i = omega (arith, long) in rw (tabulate_entry (λ value. value) (size_of t i) d 0 l') l';
            });
      }
