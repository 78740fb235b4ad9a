-- Tests over the pairs of a row, as tests of its cells.
use Prim.Native.Nat.{ℕ, zero, suc, ◌+◌, ◌≤◌, ◌<◌}
use mathlib.Core.Path.{◌≡◌, refl, sym, ap, fun_ext, ◌∙◌}
use mathlib.Core.Bool.{Bool, true, false, not, ◌&&◌, ◌||◌}
use mathlib.Core.List.{List}
use mathlib.Core.Logic.{⊎_elim}
use native.Mathlib.Omega.{arith}
use lib.Dec.{eqb}
use lib.ListN.{get_or}
use borrow.Author.Tests.{eqb-true, eqb-false, eq-eqb}
use Rattle.files.specs.Below.{any_of, any_below}
use Rattle.files.specs.Task.{Pair, mentions}
use Rattle.files.specs.Dense.{row_pairs}
use Rattle.files.proofs.BelowLaws.{any_below_intro, any_below_elim}
use Rattle.files.proofs.Logic.{clash, split, split_le, and_split, and_join, or_split, or_left, or_right}
use Rattle.files.proofs.RowLaws.{row_pairs_skip, row_pairs_next}
use Rattle.plans.specs.State.{has_fact}
use Rattle.plans.proofs.FactLaws.{fact_values}
use Rattle.marking.specs.Links.{sets_other}
use Rattle.marking.specs.Dense.{other_than}
use Rattle.files.proofs.Truth.{same_truth}

module _ (row : List ℕ) (base : ℕ) where
  -- the cell of a variable, and whether there is one
  abbrev pub cell_at : ℕ → ℕ
  cell_at v = get_or row (base + v) 0

  module _ (f : ℕ → ℕ → Bool) where
    passes : Pair → Bool
    passes p = f p.variable p.value

    -- a pair that passes, at its variable
    pub record Passing (from count : ℕ) : Type 0 where
      pub variable : ℕ
      pub least : from ≤ variable
      pub most : variable < from + count
      pub there : eqb (cell_at variable) 255 ≡ false
      pub passing : f variable (cell_at variable) ≡ true

    step : (v count : ℕ) → any_of passes (row_pairs row base v (suc count)) ≡ (not (eqb (cell_at v) 255) && f v (cell_at v)) || any_of passes (row_pairs row base (v + 1) count)
    unfolding passes
    step v count =
        split (eqb (cell_at v) 255)
        (λ e. ap (any_of passes) (row_pairs_skip row base v (suc count) (cell_at v) refl refl (eqb-true (cell_at v) 255 e)) ∙ sym (ap (λ (b : Bool). (not b && f v (cell_at v)) || any_of passes (row_pairs row base (v + 1) count)) e))
        (λ e. ap (any_of passes) (row_pairs_next row base v (suc count) (cell_at v) refl refl (eqb-false (cell_at v) 255 e)) ∙ sym (ap (λ (b : Bool). (not b && f v (cell_at v)) || any_of passes (row_pairs row base (v + 1) count)) e))

    passing_of : (v count : ℕ) → any_of passes (row_pairs row base v count) ≡ true → Passing v count
    unfolding row_pairs
    passing_of v zero e = clash e refl
    passing_of v (suc count) e =
        ⊎_elim
        (λ here.
        let both = and_split (not (eqb (cell_at v) 255)) (f v (cell_at v)) here in
        record { variable = v; least = omega arith; most = omega arith; there = split (eqb (cell_at v) 255) (λ q. clash both.0 (ap not q)) (λ q. q); passing = both.1 })
        (λ later.
        let p = passing_of (v + 1) count later in
        record { variable = p.variable; least = omega (arith, p.least); most = omega (arith, p.most); there = p.there; passing = p.passing })
        (or_split (not (eqb (cell_at v) 255) && f v (cell_at v)) _ (sym (step v count) ∙ e))

    passed_by : (v count w : ℕ) → v ≤ w → w < v + count → eqb (cell_at w) 255 ≡ false → f w (cell_at w) ≡ true → any_of passes (row_pairs row base v count) ≡ true
    passed_by v zero w a b there e = absurd (omega arith)
    passed_by v (suc count) w a b there e =
        step v count
        ∙ split_le w v
        (λ l.
        let is : w ≡ v = omega arith in
        let here : not (eqb (cell_at v) 255) && f v (cell_at v) ≡ true = rw (← is) (and_join (ap not there) e) in
        or_left _ here)
        (λ l. or_right (not (eqb (cell_at v) 255) && f v (cell_at v)) (passed_by (v + 1) count w (omega arith) (omega arith) there e))

    -- a test over the pairs of the first n entries is one over the entries
    pub any_row : (n : ℕ) → any_of (λ p. f p.variable p.value) (row_pairs row base 0 n) ≡ any_below n (λ v. not (eqb (cell_at v) 255) && f v (cell_at v))
    unfolding passes
    any_row n =
        same_truth _ _
        (λ e.
        let p = passing_of 0 n e in
        any_below_intro n (λ v. not (eqb (cell_at v) 255) && f v (cell_at v)) p.variable (omega (arith, p.most)) (and_join (ap not p.there) p.passing))
        (λ e.
        let k = any_below_elim n (λ v. not (eqb (cell_at v) 255) && f v (cell_at v)) e in
        let both = and_split (not (eqb (cell_at k.0) 255)) _ k.2 in
        passed_by 0 n k.0 (omega arith) (omega (arith, k.1)) (split (eqb (cell_at k.0) 255) (λ q. clash both.0 (ap not q)) (λ q. q)) both.1)

  -- tests at one variable
  module _ (n v : ℕ) (h : v < n) where
    at_one : (g : ℕ → Bool) → any_below n (λ w. not (eqb (cell_at w) 255) && (eqb w v && g (cell_at w))) ≡ not (eqb (cell_at v) 255) && g (cell_at v)
    at_one g =
        same_truth _ _
        (λ e.
        let k = any_below_elim n (λ w. not (eqb (cell_at w) 255) && (eqb w v && g (cell_at w))) e in
        let both = and_split (not (eqb (cell_at k.0) 255)) _ k.2 in
        let here = and_split (eqb k.0 v) (g (cell_at k.0)) both.1 in
        let is : k.0 ≡ v = eqb-true k.0 v here.0 in
        rw (← is) (and_join both.0 here.1))
        (λ e.
        let both = and_split (not (eqb (cell_at v) 255)) (g (cell_at v)) e in
        any_below_intro n (λ w. not (eqb (cell_at w) 255) && (eqb w v && g (cell_at w))) v h (and_join both.0 (and_join (eq-eqb v v refl) both.1)))

    pub row_fact : (value : ℕ) → has_fact (row_pairs row base 0 n) v value ≡ not (eqb (cell_at v) 255) && eqb (cell_at v) value
    row_fact value = fact_values (row_pairs row base 0 n) v value ∙ any_row (λ w d. eqb w v && eqb d value) n ∙ at_one (λ d. eqb d value)

    pub row_other : (value : ℕ) → sets_other (row_pairs row base 0 n) v value ≡ other_than (cell_at v) value
    unfolding sets_other other_than
    row_other value = any_row (λ w d. eqb w v && not (eqb d value)) n ∙ at_one (λ d. not (eqb d value))

    pub row_mentions : mentions (row_pairs row base 0 n) v ≡ not (eqb (cell_at v) 255)
    row_mentions =
        any_row (λ w d. eqb w v) n
        ∙ ap (any_below n) (fun_ext (λ w. split (eqb w v) (λ e. rw e refl) (λ e. rw e refl)))
        ∙ at_one (λ d. true)
        ∙ and_true (not (eqb (cell_at v) 255))
      where
        and_true : (b : Bool) → b && true ≡ b
        and_true true = refl
        and_true false = refl
