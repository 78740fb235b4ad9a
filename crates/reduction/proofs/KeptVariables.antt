-- The variables of the reduced task are the kept variables in order, each with its new size and new start value.
use Prim.Native.Nat.{ℕ, ◌<◌}
use mathlib.Core.Path.{◌≡◌, ap, ◌∙◌}
use mathlib.Core.Bool.{Bool, true}
use native.Mathlib.Omega.{arith}
use lib.ListN.{length-map}
use Rattle.files.specs.Below.{count_below, chosen_below}
use Rattle.files.specs.Task.{Variable, Task, variable, variable_count, variable_of, size_of, start_of}
use Rattle.files.proofs.BelowLaws.{count_strict, chosen_length, chosen_at, map_entry}
use Rattle.reduction.specs.Named.{kept_variable}
use Rattle.reduction.specs.Renumber.{new_variable, new_value, new_size}
use Rattle.reduction.specs.ReducedBy.{kept_variables, reduced_variable, reduced_by}

module _ (t : Task) (A : ℕ → Bool) where
  pub reduced_variables : variable_count (reduced_by t A) ≡ count_below (variable_count t) (kept_variable t A)
  unfolding reduced_by kept_variables
  reduced_variables = length-map (chosen_below (variable_count t) (kept_variable t A)) (reduced_variable t A) ∙ chosen_length (kept_variable t A) (variable_count t)

  pub new_variable_known : (v : ℕ) → v < variable_count t → kept_variable t A v ≡ true → new_variable t A v < variable_count (reduced_by t A)
  unfolding new_variable
  new_variable_known v known kept = omega (arith, reduced_variables, count_strict (kept_variable t A) (variable_count t) v known kept)

  pub reduced_variable_lem : (v : ℕ) → v < variable_count t → kept_variable t A v ≡ true → variable_of (reduced_by t A) (new_variable t A v) ≡ reduced_variable t A v
  unfolding reduced_by kept_variables new_variable
  reduced_variable_lem v known kept =
      let K = kept_variable t A in
      map_entry (reduced_variable t A) (chosen_below (variable_count t) K) (count_below v K) (variable 0 0) 0
      (omega (arith, chosen_length K (variable_count t), count_strict K (variable_count t) v known kept))
      ∙ ap (reduced_variable t A) (chosen_at K (variable_count t) v known kept)

  pub reduced_size : (v : ℕ) → v < variable_count t → kept_variable t A v ≡ true → size_of (reduced_by t A) (new_variable t A v) ≡ new_size t A v
  unfolding reduced_variable
  reduced_size v known kept = ap (λ (x : Variable). x.size) (reduced_variable_lem v known kept)

  pub reduced_start : (v : ℕ) → v < variable_count t → kept_variable t A v ≡ true → start_of (reduced_by t A) (new_variable t A v) ≡ new_value t A v (start_of t v)
  unfolding reduced_variable
  reduced_start v known kept = ap (λ (x : Variable). x.start) (reduced_variable_lem v known kept)
