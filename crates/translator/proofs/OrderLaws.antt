-- Lists of pairs by rising variable: what they say of a variable and of a state, how long they are, and that they are valid.
use Prim.Native.Nat.{ℕ, zero, suc, ◌+◌, ◌≤◌, ◌<◌}
use mathlib.Core.Path.{◌≡◌, refl, sym, ap, ap₂, ◌∙◌}
use mathlib.Core.Bool.{true}
use mathlib.Core.List.{List, [], ◌∷◌, ◌++◌}
use mathlib.Core.Logic.{◌⊎◌, inl, inr, ⊎_elim}
use mathlib.Core.Option.{Option, none, some}
use native.Mathlib.Omega.{arith}
use lib.ListN.{length}
use lib.Dec.{eqb}
use borrow.Author.Tests.{eqb-true, eqb-false}
use Rattle.files.specs.Accepted.{valid_pairs}
use Rattle.files.specs.Task.{Pair, Task, pair, variable_count, size_of, value_in}
use Rattle.files.proofs.Done.{facts}
use Rattle.files.proofs.Logic.{split, split_option, split_le, and_split, and_join}
use Rattle.files.proofs.RowLaws.{Ordered, value_in_here, value_in_past}
use Rattle.files.proofs.Truth.{same_truth}
use Rattle.plans.specs.State.{State, admits, holds, all_hold}
use Rattle.translator.specs.Stated.{pair_of, in_order_from, in_order}

-- pairs on variables below n, none of which comes twice
abbrev pub Apart : ℕ → List Pair → Type 0
Apart n [] = Unit {0}
Apart n (p ∷ ps) = (p.variable < n) × (value_in ps p.variable ≡ none) × Apart n ps

-- no value and a value are not the same
pub none_some {ℓ} : {X : Type ℓ} {o : Option ℕ} {x : ℕ} → o ≡ none → o ≡ some x → X
none_some {o} {x} e q = absurd (let r : none ≡ some x = sym e ∙ q in let z : ◌≡◌ {A = ℕ} 0 1 = cc in omega arith)

-- a value is that of the first pair, or one of the rest
pub value_cases : (p : Pair) (ps : List Pair) (v x : ℕ) → value_in (p ∷ ps) v ≡ some x → ((p.variable ≡ v) × (p.value ≡ x)) ⊎ (value_in ps v ≡ some x)
value_cases p ps v x e =
    split (eqb p.variable v)
    (λ q.
    let here : p.variable ≡ v = eqb-true p.variable v q in
    let same : some p.value ≡ some x = sym (value_in_here p ps v here) ∙ e in
    inl (here, cc))
    (λ q. inr (sym (value_in_past p ps v (eqb-false p.variable v q)) ∙ e))

pub apart_behind : (n : ℕ) (ps : List Pair) (v : ℕ) → Apart n ps → n ≤ v → value_in ps v ≡ none
apart_behind n [] v a h = refl
apart_behind n (p ∷ ps) v a h = value_in_past p ps v (λ q. omega (arith, a.0)) ∙ apart_behind n ps v a.2 h

-- one variable more
module _ (ps : List Pair) (v count : ℕ) where
  pub order_skip : value_in ps v ≡ none → in_order_from ps v (suc count) ≡ in_order_from ps (v + 1) count
  unfolding in_order_from
  order_skip e = ap (λ (o : Option ℕ). pair_of v o ++ in_order_from ps (v + 1) count) e

  pub order_next : (x : ℕ) → value_in ps v ≡ some x → in_order_from ps v (suc count) ≡ pair v x ∷ in_order_from ps (v + 1) count
  unfolding in_order_from
  order_next x e = ap (λ (o : Option ℕ). pair_of v o ++ in_order_from ps (v + 1) count) e

pub order_empty : (v count : ℕ) → in_order_from [] v count ≡ []
unfolding in_order_from
order_empty v zero = refl
order_empty v (suc count) = order_empty (v + 1) count

-- a pair on a variable before those that are listed
pub order_past : (p : Pair) (ps : List Pair) (v count : ℕ) → p.variable < v → in_order_from (p ∷ ps) v count ≡ in_order_from ps v count
unfolding in_order_from
order_past p ps v zero h = refl
order_past p ps v (suc count) h =
    ap₂ (λ (o : Option ℕ) (l : List Pair). pair_of v o ++ l) (value_in_past p ps v (λ q. omega arith)) (order_past p ps (v + 1) count (omega arith))

-- the values
module _ (ps : List Pair) where
  order_outside : (v count w : ℕ) → (v ≤ w → w < v + count → ⊥) → value_in (in_order_from ps v count) w ≡ none
  unfolding in_order_from
  order_outside v zero w h = refl
  order_outside v (suc count) w h =
      let later = order_outside (v + 1) count w (λ a b. h (omega arith) (omega arith)) in
      split_option (value_in ps v)
      (λ e. ap (λ (l : List Pair). value_in l w) (order_skip ps v count e) ∙ later)
      (λ x e.
      ap (λ (l : List Pair). value_in l w) (order_next ps v count x e)
      ∙ value_in_past (pair v x) (in_order_from ps (v + 1) count) w (λ q. h (omega arith) (omega arith))
      ∙ later)

  order_in : (v count w : ℕ) → v ≤ w → w < v + count → value_in (in_order_from ps v count) w ≡ value_in ps w
  order_in v zero w a b = absurd (omega arith)
  order_in v (suc count) w a b =
      split_le w v
      (λ l.
      let here : v ≡ w = omega arith in
      split_option (value_in ps v)
      (λ e.
      ap (λ (l : List Pair). value_in l w) (order_skip ps v count e)
      ∙ order_outside (v + 1) count w (λ a b. omega arith)
      ∙ sym (ap (value_in ps) (sym here) ∙ e))
      (λ x e.
      ap (λ (l : List Pair). value_in l w) (order_next ps v count x e)
      ∙ value_in_here (pair v x) (in_order_from ps (v + 1) count) w here
      ∙ sym (ap (value_in ps) (sym here) ∙ e)))
      (λ l.
      let later : value_in (in_order_from ps (v + 1) count) w ≡ value_in ps w = order_in (v + 1) count w (omega arith) (omega arith) in
      split_option (value_in ps v)
      (λ e. ap (λ (l : List Pair). value_in l w) (order_skip ps v count e) ∙ later)
      (λ x e.
      ap (λ (l : List Pair). value_in l w) (order_next ps v count x e)
      ∙ value_in_past (pair v x) (in_order_from ps (v + 1) count) w (λ q. omega arith)
      ∙ later))

  pub order_value : (n v : ℕ) → v < n → value_in (in_order n ps) v ≡ value_in ps v
  order_value n v h = order_in 0 n v (omega arith) (omega arith)

  pub order_behind : (n v : ℕ) → n ≤ v → value_in (in_order n ps) v ≡ none
  order_behind n v h = order_outside 0 n v (λ a b. omega arith)

  pub order_values : (n v : ℕ) → Apart n ps → value_in (in_order n ps) v ≡ value_in ps v
  order_values n v a =
      split_le n v
      (λ l. order_behind n v l ∙ sym (apart_behind n ps v a l))
      (λ l. order_value n v l)

  pub order_apart : (n v count : ℕ) → v + count ≤ n → Apart n (in_order_from ps v count)
  unfolding in_order_from
  order_apart n v zero h = tt
  order_apart n v (suc count) h =
      let later = order_apart n (v + 1) count (omega arith) in
      split_option (value_in ps v)
      (λ e. rw e later)
      (λ x e. rw e (omega arith, order_outside (v + 1) count v (λ a b. omega arith), later))

  -- rising pairs, as a row holds them
  pub order_rises : (n low v count : ℕ) → low ≤ v → v + count ≤ n → ((w x : ℕ) → value_in ps w ≡ some x → x < 255) → Ordered n low (in_order_from ps v count)
  unfolding in_order_from
  order_rises n low v zero l h small = tt
  order_rises n low v (suc count) l h small =
      split_option (value_in ps v)
      (λ e. rw e (order_rises n low (v + 1) count (omega arith) (omega arith) small))
      (λ x e. rw e (l, omega arith, small v x e, order_rises n (v + 1) (v + 1) count (omega arith) (omega arith) small))

  -- and as a task has them
  pub order_valid : (t : Task) (low v count : ℕ) → low ≤ v → v + count ≤ variable_count t → ((w x : ℕ) → value_in ps w ≡ some x → x < size_of t w)
      → valid_pairs t low (in_order_from ps v count) ≡ true
  unfolding in_order_from valid_pairs
  order_valid t low v zero l h inside = refl
  order_valid t low v (suc count) l h inside =
      split_option (value_in ps v)
      (λ e. rw e (order_valid t low (v + 1) count (omega arith) (omega arith) inside))
      (λ x e. rw e (simp facts (l, (omega arith, (inside v x e, order_valid t (v + 1) (v + 1) count (omega arith) (omega arith) inside)))))

  -- at most a pair for each variable
  pub order_few : (v count : ℕ) → length (in_order_from ps v count) ≤ count
  unfolding in_order_from
  order_few v zero = omega arith
  order_few v (suc count) =
      let later : length (in_order_from ps (v + 1) count) ≤ count = order_few (v + 1) count in
      split_option (value_in ps v) (λ e. rw e (omega arith)) (λ x e. rw e (omega arith))

-- and at most as many pairs as there were
order_longer : (ps : List Pair) (v count : ℕ) → length (in_order_from ps (v + 1) count) ≤ length (in_order_from ps v (suc count))
order_longer ps v count =
    split_option (value_in ps v)
    (λ e. omega (arith, ap length (order_skip ps v count e)))
    (λ x e. omega (arith, ap length (order_next ps v count x e)))

order_more : (p : Pair) (ps : List Pair) (v count : ℕ) → length (in_order_from (p ∷ ps) v count) ≤ length (in_order_from ps v count) + 1
unfolding in_order_from
order_more p ps v zero = omega arith
order_more p ps v (suc count) =
    split (eqb p.variable v)
    (λ q.
    let here : p.variable ≡ v = eqb-true p.variable v q in
    let rest : length (in_order_from (p ∷ ps) (v + 1) count) ≡ length (in_order_from ps (v + 1) count) = ap length (order_past p ps (v + 1) count (omega arith)) in
    let longer = order_longer ps v count in
    omega (arith, ap length (order_next (p ∷ ps) v count p.value (value_in_here p ps v here)), rest, longer))
    (λ q.
    let past : value_in (p ∷ ps) v ≡ value_in ps v = value_in_past p ps v (eqb-false p.variable v q) in
    let later = order_more p ps (v + 1) count in
    split_option (value_in ps v)
    (λ e. omega (arith, later, ap length (order_skip (p ∷ ps) v count (past ∙ e)), ap length (order_skip ps v count e)))
    (λ x e. omega (arith, later, ap length (order_next (p ∷ ps) v count x (past ∙ e)), ap length (order_next ps v count x e))))

pub order_shorter : (v count : ℕ) (ps : List Pair) → length (in_order_from ps v count) ≤ length ps
order_shorter v count [] = omega (arith, ap length (order_empty v count))
order_shorter v count (p ∷ ps) = omega (arith, order_more p ps v count, order_shorter v count ps)

-- conditions hold by the values that they ask
hold_value : (ps : List Pair) (s : State) (v x : ℕ) → all_hold ps s ≡ true → value_in ps v ≡ some x → eqb x (s v) ≡ true
unfolding all_hold holds admits
hold_value [] s v x h e = none_some refl e
hold_value (p ∷ ps) s v x h e =
    let both = and_split (holds p s) (all_hold ps s) h in
    ⊎_elim
    (λ q. ap₂ (λ (y w : ℕ). eqb y (s w)) (sym q.1) (sym q.0) ∙ both.0)
    (λ q. hold_value ps s v x both.1 q)
    (value_cases p ps v x e)

value_hold : (n : ℕ) (ps : List Pair) (s : State) → Apart n ps → ((v x : ℕ) → value_in ps v ≡ some x → eqb x (s v) ≡ true) → all_hold ps s ≡ true
unfolding all_hold holds admits
value_hold n [] s a h = refl
value_hold n (p ∷ ps) s a h =
    and_join
    (h p.variable p.value (value_in_here p ps p.variable refl))
    (value_hold n ps s a.2 (λ v x e.
    h v x
    (value_in_past p ps v (λ q. none_some a.1 (ap (value_in ps) q ∙ e)) ∙ e)))

pub order_holds : (n : ℕ) (ps : List Pair) (s : State) → Apart n ps → all_hold (in_order n ps) s ≡ all_hold ps s
order_holds n ps s a =
    same_truth (all_hold (in_order n ps) s) (all_hold ps s)
    (λ h. value_hold n ps s a (λ v x e. hold_value (in_order n ps) s v x h (order_values ps n v a ∙ e)))
    (λ h. value_hold n (in_order n ps) s (order_apart ps n 0 n (omega arith)) (λ v x e. hold_value ps s v x h (sym (order_values ps n v a) ∙ e)))
