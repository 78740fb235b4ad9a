-- What could cover what, by rows of the arrays: conditions stand in a row where none of them is missing there.
use Prim.Native.Nat.{ℕ, ◌+◌}
use mathlib.Core.Path.{◌≡◌, refl, sym, ap, ◌∙◌}
use mathlib.Core.Bool.{Bool, true, false, not, ◌&&◌}
use mathlib.Core.List.{List}
use lib.Dec.{eqb}
use lib.ListN.{get_or}
use borrow.Author.Tests.{eqb-true, eqb-false, eq-eqb, ne_eqb}
use Rattle.files.specs.Dense.{row_pairs}
use Rattle.files.specs.Task.{Pair, Action}
use Rattle.files.proofs.Logic.{split}
use Rattle.plans.specs.State.{has_fact}
use Rattle.marking.specs.Covering.{within, could_cover}
use Rattle.marking.specs.Dense.{other_than, missing}
use Rattle.marking.proofs.RowTests.{any_row, row_fact}
use Rattle.files.proofs.Truth.{any_same, all_of_any, count_none}

eqb_swap : (x y : ℕ) → eqb x y ≡ eqb y x
eqb_swap x y = split (eqb x y) (λ e. e ∙ sym (eq-eqb y x (sym (eqb-true x y e)))) (λ e. e ∙ sym (ne_eqb y x (λ q. eqb-false x y e (sym q))))

-- a cell that is there stands in the other row where the other has the same cell
lacking : (x y : ℕ) → not (eqb x 255) && not (not (eqb y 255) && eqb y x) ≡ not (eqb x 255) && not (eqb x y)
lacking x y =
    split (eqb x 255)
    (λ e. rw e refl)
    (λ e.
    split (eqb x y)
    (λ q.
    let is : x ≡ y = eqb-true x y q in
    let there : eqb y 255 ≡ false = ap (λ (n : ℕ). eqb n 255) (sym is) ∙ e in
    let back : eqb y x ≡ true = eq-eqb y x (sym is) in
    rw (there, back, q) refl)
    (λ q.
    let back : eqb y x ≡ false = eqb_swap y x ∙ q in
    rw (back, q) (both_false (not (eqb y 255)) (not (eqb x 255)))))
  where
    both_false : (b c : Bool) → c && not (b && false) ≡ c && true
    both_false true c = refl
    both_false false c = refl

pub within_rows : (conditions : List ℕ) (base other variables : ℕ) → within (row_pairs conditions base 0 variables) (row_pairs conditions other 0 variables) ≡ eqb (missing conditions base other variables) 0
unfolding within missing other_than
within_rows conditions base other variables =
    let others : List Pair = row_pairs conditions other 0 variables in
    all_of_any (λ c. has_fact others c.variable c.value) (row_pairs conditions base 0 variables)
    ∙ ap not
    (any_row conditions base (λ v x. not (has_fact others v x)) variables
    ∙ any_same variables
    (λ v. not (eqb (get_or conditions (base + v) 0) 255) && not (has_fact others v (get_or conditions (base + v) 0)))
    (λ v. other_than (get_or conditions (base + v) 0) (get_or conditions (other + v) 0))
    (λ v h.
    ap (λ (t : Bool). not (eqb (get_or conditions (base + v) 0) 255) && not t) (row_fact conditions other variables v h (get_or conditions (base + v) 0))
    ∙ lacking (get_or conditions (base + v) 0) (get_or conditions (other + v) 0)))
    ∙ sym (count_none variables (λ v. other_than (get_or conditions (base + v) 0) (get_or conditions (other + v) 0)))

-- it hangs on cost and conditions alone
pub could_same : (b b' a a' : Action) → b.cost ≡ b'.cost → b.conditions ≡ b'.conditions → a.cost ≡ a'.cost → a.conditions ≡ a'.conditions → could_cover b a ≡ could_cover b' a'
unfolding could_cover
could_same b b' a a' bc bs ac as' = rw (bc, bs, ac, as') refl
