-- Of two lists of pairs with rising variables, one whose facts are all among the other's is shorter than it or equal to it.
use Prim.Native.Nat.{ℕ, ◌+◌, ◌≤◌, ◌<◌}
use mathlib.Core.Path.{◌≡◌, refl, sym, ap}
use mathlib.Core.Bool.{true}
use mathlib.Core.List.{List, [], ◌∷◌}
use mathlib.Core.Logic.{◌⊎◌, inl, inr, ⊎_elim}
use native.Mathlib.Omega.{arith}
use lib.ListN.{length}
use Rattle.files.specs.Task.{Pair, Task}
use Rattle.files.specs.Accepted.{valid_pairs}
use Rattle.files.proofs.Done.{facts}
use Rattle.files.proofs.Logic.{clash}
use Rattle.plans.specs.State.{has_fact}
use Rattle.plans.proofs.AdmitsLaws.{admits_value}
use Rattle.plans.proofs.FactLaws.{fact_here, fact_later, fact_none, fact_cases, fact_valid}

-- the pairs behind the first, whose variables are above its own
rest_valid : (t : Task) (low : ℕ) (p : Pair) (ps : List Pair) → valid_pairs t low (p ∷ ps) ≡ true → valid_pairs t (p.variable + 1) ps ≡ true
unfolding valid_pairs
rest_valid t low p ps h = (simp facts at h).1.1.1

-- the first pair has the least variable
fact_least : (t : Task) (low : ℕ) (p : Pair) (ps : List Pair) (v d : ℕ) → valid_pairs t low (p ∷ ps) ≡ true → has_fact (p ∷ ps) v d ≡ true → p.variable ≤ v
fact_least t low p ps v d h e =
    ⊎_elim
    (λ here. omega (arith, here.0))
    (λ later. omega (arith, (fact_valid t (p.variable + 1) ps v d (rest_valid t low p ps h) later).above))
    (fact_cases p ps v d e)

-- a fact above the first pair is one of the rest
fact_rest : (p : Pair) (ps : List Pair) (v d : ℕ) → p.variable < v → has_fact (p ∷ ps) v d ≡ true → has_fact ps v d ≡ true
fact_rest p ps v d l e = ⊎_elim (λ here. absurd (omega (arith, here.0))) (λ later. later) (fact_cases p ps v d e)

pub part_shorter : (t : Task) (low least : ℕ) (whole part : List Pair) → valid_pairs t low whole ≡ true → valid_pairs t least part ≡ true → ((v d : ℕ) → has_fact part v d ≡ true → has_fact whole v d ≡ true) → (length part < length whole) ⊎ (part ≡ whole)
part_shorter t low least [] [] w r h = inr refl
part_shorter t low least [] (q ∷ part) w r h = clash (h q.variable q.value (fact_here q part)) (fact_none q.variable q.value)
part_shorter t low least (p ∷ whole) [] w r h = inl (omega arith)
part_shorter t low least (p ∷ whole) (q ∷ part) w r h =
    let behind = rest_valid t low p whole w in
    let after = rest_valid t least q part r in
    ⊎_elim
    (λ here.
    let same_variable : p.variable ≡ q.variable = here.0 in
    let same_value : p.value ≡ q.value = admits_value p q.value here.1 in
    ⊎_elim
    (λ shorter. inl (omega arith))
    (λ same. inr (λ i. record { variable = sym same_variable i; value = sym same_value i } ∷ same i))
    (part_shorter t (p.variable + 1) (q.variable + 1) whole part behind after
    (λ v d e. fact_rest p whole v d (omega (arith, (fact_valid t (q.variable + 1) part v d after e).above)) (h v d (fact_later q part v d e)))))
    (λ later.
    let above = (fact_valid t (p.variable + 1) whole q.variable q.value behind later).above in
    ⊎_elim
    (λ shorter. inl (omega arith))
    (λ same. inl (let e = ap length same in omega arith))
    (part_shorter t (p.variable + 1) least whole (q ∷ part) behind r
    (λ v d e. fact_rest p whole v d (omega (arith, above, fact_least t least q part v d r e)) (h v d e))))
    (fact_cases p whole q.variable q.value (h q.variable q.value (fact_here q part)))
