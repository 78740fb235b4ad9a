-- The actions in the rows of all values of a state: those whose step can lead to it; by the rows of the conditions alone, those
-- whose conditions hold in it.
use Prim.Native.Nat.{ℕ, zero, suc, ◌+◌, ◌*◌, ◌<◌}
use mathlib.Core.Path.{◌≡◌, refl, sym, ap, ap₂, ◌∙◌}
use mathlib.Core.Bool.{Bool, cond, ◌&&◌}
use mathlib.Core.List.{List}
use native.Mathlib.Omega.{arith}
use lib.Dec.{eqb}
use lib.ListN.{get_or}
use borrow.Author.Tests.{eqb-false}
use Rattle.files.specs.Below.{all_below}
use Rattle.files.specs.Dense.{row_pairs}
use Rattle.files.proofs.Logic.{split}
use Rattle.plans.specs.State.{State, all_hold}
use Rattle.plans.specs.Tally.{list_state, meets_cell}
use Rattle.plans.proofs.RowStates.{meets_some, meets_at, hold_below}
use Rattle.lookup.specs.FactRows.{can_have, leads_to_fact, fact_number, RowsByFact, InAllRows}
use Rattle.distances.specs.Rows.{can_reach}
use Rattle.bits.specs.Sets.{in_words}
use Rattle.distances.proofs.Predecessors.{reach_at}

-- tests that agree below the bound
pub all_same : (n : ℕ) (f g : ℕ → Bool) → ((i : ℕ) → i < n → f i ≡ g i) → all_below n f ≡ all_below n g
all_same zero f g h = refl
all_same (suc n) f g h = ap₂ ◌&&◌ (h n (omega arith)) (all_same n f g (λ i l. h i (omega arith)))

pub words_reach : (variables actions : ℕ) (sizes conditions effects rows values words : List ℕ)
    → RowsByFact variables actions sizes conditions effects rows
    → InAllRows variables sizes values rows words
    → ((v : ℕ) → v < variables → get_or values v 0 < get_or sizes v 0)
    → (a : ℕ) → a < actions → a < 512 → in_words words 0 a ≡ can_reach conditions effects (64 * a) variables (list_state values)
unfolding can_reach list_state leads_to_fact
words_reach variables actions sizes conditions effects rows values words has all inside a h few =
    all a few
    ∙ all_same variables (λ v. in_words rows (8 * fact_number sizes v (get_or values v 0)) a) (reach_at conditions effects (64 * a) (list_state values))
    (λ v l. has v (get_or values v 0) a l (inside v l) h)

have_meets : (condition value : ℕ) → can_have condition condition value ≡ meets_cell condition value
unfolding can_have
have_meets condition value =
    split (eqb condition 255)
    (λ e. ap (λ (t : Bool). cond t (meets_cell condition value) (eqb condition value)) e)
    (λ e.
    ap (λ (t : Bool). cond t (meets_cell condition value) (eqb condition value)) e ∙ meets_some condition value (eqb-false condition 255 e))

pub reach_holds : (conditions : List ℕ) (base variables : ℕ) (s : State)
    → can_reach conditions conditions base variables s ≡ all_hold (row_pairs conditions base 0 variables) s
unfolding can_reach
reach_holds conditions base variables s =
    all_same variables (reach_at conditions conditions base s) (meets_at conditions base s) (λ v l. have_meets (get_or conditions (base + v) 0) (s v))
    ∙ sym (hold_below conditions base s variables)
