-- How many marks are set: at most one for each fact and each action, and more where marks are added.
use Prim.Native.Nat.{ℕ, ◌+◌, ◌≤◌, ◌<◌}
use mathlib.Core.Path.{◌≡◌, sym, ◌∙◌}
use mathlib.Core.Bool.{true}
use native.Mathlib.Omega.{arith}
use Rattle.files.specs.Below.{count_below, sum_below}
use Rattle.files.specs.Task.{Task, variable_count, action_count, size_of, fact_count}
use Rattle.marking.specs.Marks.{Marks, kept, relevant}
use Rattle.files.proofs.CountOrder.{count_order, count_same, count_most, sum_order, sum_same}
use Rattle.marking.proofs.MarkTables.{Shaped, marks_of_same}

module _ (t : Task) where
  relevant_count : Marks → ℕ → ℕ
  relevant_count m v = count_below (size_of t v) (relevant m v)

  pub mark_count : Marks → ℕ
  mark_count m = count_below (action_count t) (kept m) + sum_below (variable_count t) (relevant_count m)

  pub mark_count_most : (m : Marks) → mark_count m ≤ fact_count t + action_count t
  unfolding mark_count relevant_count
  mark_count_most m =
      omega
      (arith, count_most (action_count t) (kept m), sum_order (variable_count t) (relevant_count m) (size_of t) (λ v l. count_most (size_of t v) (relevant m v)))

  -- the marks of m are marks of n
  pub record Among (m n : Marks) : Type 0 where
    pub actions : (a : ℕ) → a < action_count t → kept m a ≡ true → kept n a ≡ true
    pub facts : (v d : ℕ) → v < variable_count t → d < size_of t v → relevant m v d ≡ true → relevant n v d ≡ true

  -- with no more of them, they are the same
  pub among_same : (m n : Marks) → Shaped t m → Shaped t n → Among m n → mark_count n ≤ mark_count m → m ≡ n
  unfolding mark_count relevant_count
  among_same m n sm sn b q =
      let fewer_actions = count_order (action_count t) (kept m) (kept n) b.actions in
      let fewer : (v : ℕ) → v < variable_count t → relevant_count m v ≤ relevant_count n v = λ v l. count_order (size_of t v) (relevant m v) (relevant n v) (λ d. b.facts v d l) in
      let fewer_facts = sum_order (variable_count t) (relevant_count m) (relevant_count n) fewer in
      sm
      ∙ marks_of_same t (kept m) (kept n) (relevant m) (relevant n)
      (count_same (action_count t) (kept m) (kept n) b.actions (omega arith))
      (λ v d l.
      count_same (size_of t v) (relevant m v) (relevant n v) (λ d. b.facts v d l)
      (sum_same (variable_count t) (relevant_count m) (relevant_count n) fewer (omega arith) v l)
      d)
      ∙ sym sn
