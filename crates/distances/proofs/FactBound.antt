-- Variables of at most 32 values with at most 4,096 states have at most 148 facts.
use Prim.Native.Nat.{ℕ, zero, suc, ◌*◌, ◌^◌, ◌≤◌, ◌<◌}
use mathlib.Core.Path.{◌≡◌, refl, sym, ap, ap₂, ◌∙◌}
use mathlib.Core.Bool.{Bool, true}
use mathlib.Core.List.{List}
use native.Mathlib.Omega.{arith}
use native.Mathlib.Nat.{le_of_eq, le_refl, le_trans, pow-zero, pow-suc, pow-succ', pow-le-pow_left, mul-le-mul, mul-mul-mul_comm, mul_comm, not-le_of_lt}
use lib.Dec.{leb}
use lib.ListN.{get_or}
use lib.Pow.{pow-add, pow-lt, pow_mono}
use borrow.Author.Tests.{leb-true}
use Rattle.files.specs.Below.{all_below, sum_of}
use Rattle.files.proofs.BelowLaws.{all_below_elim}
use Rattle.files.proofs.Logic.{split_le}
use Rattle.distances.specs.Rows.{row_states}
use Rattle.lookup.specs.Moves.{row_weight}
use Rattle.distances.proofs.RowNumbers.{states_weight}

-- two to a number of values is at most twice the seventh power of that number
fits : ℕ → Bool
fits s = leb (2 ^ suc s) (2 * suc s ^ 7)

all_fit : all_below 32 fits ≡ true
unfolding fits
all_fit = refl

values_most : (s : ℕ) → 1 ≤ s → s ≤ 32 → 2 ^ s ≤ 2 * s ^ 7
unfolding fits
values_most zero h l = absurd (omega arith)
values_most (suc s) h l = leb-true (2 ^ suc s) (2 * suc s ^ 7) (all_below_elim 32 fits all_fit s (omega arith))

mul_pow : (a b k : ℕ) → (a * b) ^ k ≡ a ^ k * b ^ k
mul_pow a b zero = pow-zero (a * b) ∙ sym (ap₂ ◌*◌ (pow-zero a) (pow-zero b))
mul_pow a b (suc k) =
    pow-suc (a * b) k
    ∙ ap (λ (x : ℕ). x * (a * b)) (mul_pow a b k)
    ∙ mul-mul-mul_comm (a ^ k) (b ^ k) a b
    ∙ ap₂ ◌*◌ (sym (pow-suc a k)) (sym (pow-suc b k))

module _ (sizes : List ℕ) where
  facts_weight : (n : ℕ) → ((v : ℕ) → v < n → 1 ≤ get_or sizes v 0) → ((v : ℕ) → v < n → get_or sizes v 0 ≤ 32) → 2 ^ sum_of sizes n ≤ 2 ^ n * row_weight sizes n ^ 7
  unfolding sum_of row_weight
  facts_weight zero h l = le_refl 1
  facts_weight (suc n) h l =
      let s = get_or sizes n 0 in
      let w = row_weight sizes n in
      let whole : 2 * s ^ 7 * (2 ^ n * w ^ 7) ≡ 2 ^ suc n * (w * s) ^ 7 =
      mul-mul-mul_comm 2 (s ^ 7) (2 ^ n) (w ^ 7) ∙ ap₂ ◌*◌ (sym (pow-succ' 2 n)) (mul_comm (s ^ 7) (w ^ 7) ∙ sym (mul_pow w s 7)) in
      le_trans
      (le_of_eq (pow-add 2 s (sum_of sizes n)))
      (le_trans
      (mul-le-mul (values_most s (h n (omega arith)) (l n (omega arith))) (facts_weight n (λ v b. h v (omega arith)) (λ v b. l v (omega arith))))
      (le_of_eq whole))

  pub facts_few : (n : ℕ) → n ≤ 64 → ((v : ℕ) → v < n → 1 ≤ get_or sizes v 0) → ((v : ℕ) → v < n → get_or sizes v 0 ≤ 32) → row_states n sizes ≤ 4096 → sum_of sizes n ≤ 148
  facts_few n few h l states =
      let below : row_weight sizes n ≤ 4096 = omega (arith, states_weight sizes n) in
      let most : 2 ^ sum_of sizes n ≤ 2 ^ 64 * 4096 ^ 7 = le_trans (facts_weight n h l) (mul-le-mul (pow_mono few) (pow-le-pow_left below 7)) in
      split_le (sum_of sizes n) 148
      (λ a. a)
      (λ a. absurd (not-le_of_lt (pow-lt {i = 148} a) most))
