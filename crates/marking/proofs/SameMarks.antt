-- The comparison of marks passes exactly where they are equal.
use mathlib.Core.Path.{◌≡◌, refl, sym}
use mathlib.Core.Bool.{Bool, true, false, beq}
use mathlib.Core.List.{List, [], ◌∷◌}
use Rattle.files.specs.Below.{same_list}
use Rattle.files.proofs.Logic.{clash, and_split, and_join}
use Rattle.marking.specs.Marks.{Marks, same_marks}

-- a test of entries that passes exactly where they are equal
module _ {A : Type 0} (same : A → A → Bool) where
  pub same_list_self : ((x : A) → same x x ≡ true) → (xs : List A) → same_list same xs xs ≡ true
  same_list_self h [] = refl
  same_list_self h (x ∷ xs) = and_join (h x) (same_list_self h xs)

  pub same_list_says : ((x y : A) → same x y ≡ true → x ≡ y) → (xs ys : List A) → same_list same xs ys ≡ true → xs ≡ ys
  same_list_says h [] [] e = refl
  same_list_says h [] (y ∷ ys) e = clash refl (sym e)
  same_list_says h (x ∷ xs) [] e = clash refl (sym e)
  same_list_says h (x ∷ xs) (y ∷ ys) e =
      let both = and_split (same x y) (same_list same xs ys) e in
      let first = h x y both.0 in
      let rest = same_list_says h xs ys both.1 in
      cc

beq_self : (b : Bool) → beq b b ≡ true
beq_self true = refl
beq_self false = refl

beq_says : (a b : Bool) → beq a b ≡ true → a ≡ b
beq_says true true e = refl
beq_says true false e = sym e
beq_says false true e = e
beq_says false false e = refl

pub same_marks_equal : (m n : Marks) → m ≡ n → same_marks m n ≡ true
unfolding same_marks
same_marks_equal m n e =
    rw e
    (and_join
    (same_list_self beq beq_self n.actions)
    (same_list_self (same_list beq) (same_list_self beq beq_self) n.facts))

pub same_marks_says : (m n : Marks) → same_marks m n ≡ true → m ≡ n
unfolding same_marks
same_marks_says m n e =
    let both = and_split (same_list beq m.actions n.actions) _ e in
    let actions = same_list_says beq beq_says m.actions n.actions both.0 in
    let facts = same_list_says (same_list beq) (same_list_says beq beq_says) m.facts n.facts both.1 in
    λ i. record { actions = actions i; facts = facts i }
