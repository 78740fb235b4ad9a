-- The state with the values that a goal asks: from one turn of a loop to the next, and at the end.
use Prim.Native.Nat.{ℕ, ◌+◌, ◌*◌, ◌≤◌, ◌<◌}
use mathlib.Core.Path.{◌≡◌, refl, ap, subst, ◌∙◌}
use mathlib.Core.Bool.{cond}
use mathlib.Core.List.{List}
use native.Mathlib.Omega.{arith}
use lib.Dec.{eqb}
use lib.ListN.{get_or}
use Rattle.lookup.specs.Moves.{weighted, WeightsOf}
use Rattle.distances.specs.Offers.{goal_values}
use Rattle.lookup.proofs.MoveLoops.{cell_product, weighted_next}

module _ (variables : ℕ) (goal weights : List ℕ) where
  -- what the values of the variables before v add to the number of the state
  pub record Numbering (v number : ℕ) : Type 0 where
    pub within : v ≤ variables
    pub few : number ≤ 1048576 * v
    pub is : (sizes : List ℕ) → WeightsOf variables sizes weights → number ≡ weighted sizes (goal_values goal) v

  pub numbering_begin : Numbering 0 0
  unfolding weighted
  numbering_begin = record { within = omega arith; few = omega arith; is = λ sizes weight. refl }

  module _ (v number cell x : ℕ) (c : Numbering v number) (h : v < variables) (light : get_or weights v 0 ≤ 4096) (cell_few : cell < 256) (x_is : x ≡ cond (eqb cell 255) 0 cell) where
    more : get_or weights v 0 * x + number ≤ 1048576 * (v + 1)
    more = omega (arith, cell_product (get_or weights v 0) cell (eqb cell 255) x light cell_few x_is, c.few)

    pub number_fits : variables ≤ 64 → get_or weights v 0 * x + number ≤ 67108864
    number_fits few = omega (arith, more)

    value_at : cell ≡ get_or goal v 0 → x ≡ goal_values goal v
    unfolding goal_values
    value_at cell_is = x_is ∙ ap (λ (n : ℕ). cond (eqb n 255) 0 n) cell_is

    pub numbering_next : cell ≡ get_or goal v 0 → Numbering (v + 1) (get_or weights v 0 * x + number)
    numbering_next cell_is =
        record {
          within = omega arith;
          few = more;
          is = λ sizes weight. weighted_next sizes (goal_values goal) v _ x number (weight v h) (value_at cell_is) (c.is sizes weight);
        }

  pub numbering_end : (v number : ℕ) → Numbering v number → variables ≤ v → (sizes : List ℕ) → WeightsOf variables sizes weights → number ≡ weighted sizes (goal_values goal) variables
  numbering_end v number c l sizes weight =
      let last : v ≡ variables = omega (arith, c.within) in
      subst (λ (n : ℕ). number ≡ weighted sizes (goal_values goal) n) last (c.is sizes weight)
