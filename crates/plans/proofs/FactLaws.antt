-- Facts of lists of pairs: where they lie, tests over them, and lists whose facts are among another's.
use Prim.Native.Nat.{ℕ, ◌+◌, ◌≤◌, ◌<◌}
use mathlib.Core.Path.{◌≡◌, refl, sym, ap, ap₂, ◌∙◌}
use mathlib.Core.Bool.{Bool, true, false, cond, ◌&&◌, ◌||◌}
use mathlib.Core.List.{List, [], ◌∷◌}
use mathlib.Core.Logic.{◌⊎◌, inl, inr, ⊎_elim}
use mathlib.Core.Option.{some}
use native.Mathlib.Omega.{arith}
use lib.Dec.{eqb}
use borrow.Author.Tests.{eqb-true, eq-eqb}
use Rattle.files.specs.Below.{any_of, all_of}
use Rattle.files.specs.Task.{Pair, Task, variable_count, size_of, value_in, mentions}
use Rattle.files.specs.Accepted.{valid_pairs}
use Rattle.files.proofs.Done.{facts}
use Rattle.files.proofs.Logic.{clash, split, and_split, and_join, or_split, or_left, or_right}
use Rattle.plans.specs.State.{admits, has_fact}
use Rattle.plans.proofs.AdmitsLaws.{admits_is, admits_own, admits_value}

-- a fact is one that the first pair admits, or one of the rest
pub fact_first : (p : Pair) (ps : List Pair) (d : ℕ) → admits p d ≡ true → has_fact (p ∷ ps) p.variable d ≡ true
unfolding has_fact
fact_first p ps d e = or_left _ (and_join (eq-eqb p.variable p.variable refl) e)

pub fact_later : (p : Pair) (ps : List Pair) (v d : ℕ) → has_fact ps v d ≡ true → has_fact (p ∷ ps) v d ≡ true
unfolding has_fact
fact_later p ps v d h = or_right (eqb p.variable v && admits p d) h

pub fact_none : (v d : ℕ) → has_fact [] v d ≡ false
unfolding has_fact
fact_none v d = refl

pub fact_cases : (p : Pair) (ps : List Pair) (v d : ℕ) → has_fact (p ∷ ps) v d ≡ true → ((p.variable ≡ v) × (admits p d ≡ true)) ⊎ (has_fact ps v d ≡ true)
unfolding has_fact
fact_cases p ps v d h =
    ⊎_elim
    (λ x. let q = and_split (eqb p.variable v) (admits p d) x in inl (eqb-true p.variable v q.0, q.1))
    (λ x. inr x)
    (or_split (eqb p.variable v && admits p d) _ h)

-- facts by the values of the pairs
pub fact_here : (p : Pair) (ps : List Pair) → has_fact (p ∷ ps) p.variable p.value ≡ true
fact_here p ps = fact_first p ps p.value (admits_own p)

pub fact_values : (ps : List Pair) (v d : ℕ) → has_fact ps v d ≡ any_of (λ p. eqb p.variable v && eqb p.value d) ps
unfolding has_fact
fact_values [] v d = refl
fact_values (p ∷ ps) v d = ap₂ (λ (here later : Bool). (eqb p.variable v && here) || later) (admits_is p d) (fact_values ps v d)

-- the value that a list gives a variable is a fact of it
pub value_fact : (ps : List Pair) (v d : ℕ) → value_in ps v ≡ some d → has_fact ps v d ≡ true
value_fact [] v d e = absurd (let z : ◌≡◌ {A = ℕ} 0 1 = cc in omega arith)
value_fact (p ∷ ps) v d e =
    split (eqb p.variable v)
    (λ q.
    let same : p.value ≡ d = let r : some p.value ≡ some d = sym (ap (λ (b : Bool). cond b (some p.value) (value_in ps v)) q) ∙ e in cc in
    rw (← eqb-true p.variable v q, ← same) (fact_here p ps))
    (λ q. fact_later p ps v d (value_fact ps v d (sym (ap (λ (b : Bool). cond b (some p.value) (value_in ps v)) q) ∙ e)))

-- a test that a fact passes, and one that every fact passes
pub fact_any : (f : ℕ → ℕ → Bool) (ps : List Pair) (v d : ℕ) → has_fact ps v d ≡ true → f v d ≡ true → any_of (λ p. f p.variable p.value) ps ≡ true
fact_any f [] v d h e = clash h (fact_none v d)
fact_any f (p ∷ ps) v d h e =
    ⊎_elim
    (λ x. or_left _ (ap₂ f x.0 (admits_value p d x.1) ∙ e))
    (λ x. or_right (f p.variable p.value) (fact_any f ps v d x e))
    (fact_cases p ps v d h)

pub fact_all : (f : ℕ → ℕ → Bool) (ps : List Pair) (v d : ℕ) → has_fact ps v d ≡ true → all_of (λ p. f p.variable p.value) ps ≡ true → f v d ≡ true
fact_all f [] v d h e = clash h (fact_none v d)
fact_all f (p ∷ ps) v d h e =
    let both = and_split (f p.variable p.value) _ e in
    ⊎_elim
    (λ x. sym (ap₂ f x.0 (admits_value p d x.1)) ∙ both.0)
    (λ x. fact_all f ps v d x both.1)
    (fact_cases p ps v d h)

pub all_facts : (f : ℕ → ℕ → Bool) (ps : List Pair) → ((v d : ℕ) → has_fact ps v d ≡ true → f v d ≡ true) → all_of (λ p. f p.variable p.value) ps ≡ true
all_facts f [] h = refl
all_facts f (p ∷ ps) h = and_join (h p.variable p.value (fact_here p ps)) (all_facts f ps (λ v d k. h v d (fact_later p ps v d k)))

pub fact_mentions : (ps : List Pair) (v d : ℕ) → has_fact ps v d ≡ true → mentions ps v ≡ true
fact_mentions ps v d h = fact_any (λ w e. eqb w v) ps v d h (eq-eqb v v refl)

-- the facts of an accepted task's pairs
pub record FactValid (t : Task) (low v d : ℕ) : Type 0 where
  pub above : low ≤ v
  pub known : v < variable_count t
  pub inside : d < size_of t v

pub fact_valid : (t : Task) (low : ℕ) (ps : List Pair) (v d : ℕ) → valid_pairs t low ps ≡ true → has_fact ps v d ≡ true → FactValid t low v d
unfolding valid_pairs
fact_valid t low [] v d e h = clash h (fact_none v d)
fact_valid t low (p ∷ ps) v d e h =
    let q = simp facts at e in
    ⊎_elim
    (λ x.
    record {
      above = omega (arith, q.0, x.0);
      known = omega (arith, q.1.0, x.0);
      inside = omega (arith, q.1.1.0, admits_value p d x.1, ap (size_of t) x.0);
    })
    (λ x.
    let r = fact_valid t (p.variable + 1) ps v d q.1.1.1 x in
    record { above = omega (arith, q.0, r.above); known = r.known; inside = r.inside })
    (fact_cases p ps v d h)
