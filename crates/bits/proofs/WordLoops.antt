-- The loop that makes a word of the numbers that pass a test, the last first.
use Prim.Native.Nat.{ℕ, zero, suc, ◌+◌, ◌-◌, ◌*◌, ◌^◌, ◌≤◌, ◌<◌}
use mathlib.Core.Path.{◌≡◌, sym, ap, subst, ◌∙◌}
use mathlib.Core.Bool.{Bool, ◌&&◌}
use native.Mathlib.Omega.{arith}
use native.Mathlib.Nat.{add-zero, pow-suc}
use lib.Dec.{eqb, ltb}
use lib.Pow.{pow_mono}
use borrow.Author.Tests.{lt-ltb, le-ltb}
use Rattle.files.specs.Below.{bit}
use Rattle.files.proofs.BelowLaws.{bit_most}
use Rattle.files.proofs.Truth.{bit_marked}
use Rattle.bits.specs.Sets.{in_word}
use Rattle.bits.proofs.BitLaws.{in_none, in_first, in_later}

module _ (limit : ℕ) (test : ℕ → Bool) where
  -- the word has the numbers from v on, less v
  pub record Marking (v word : ℕ) : Type 0 where
    pub within : v ≤ limit
    pub small : word < 2 ^ (limit - v)
    pub bits : (k : ℕ) → in_word word k ≡ ltb (v + k) limit && test (v + k)

  pub mark_begin : Marking limit 0
  mark_begin =
      let none : limit - limit ≡ 0 = omega arith in
      record {
        within = omega arith;
        small = subst (λ (n : ℕ). 0 < 2 ^ n) (sym none) (omega arith);
        bits = λ k. in_none k ∙ sym (ap (λ (b : Bool). b && test (limit + k)) (le-ltb (limit + k) limit (omega arith)));
      }

  module _ (v word : ℕ) (c : Marking v word) (h : 0 < v) where
    -- the word doubled fits, and with a bit more
    pub mark_fits : limit ≤ 64 → word < 9223372036854775808
    mark_fits few = omega (arith, c.small, pow_mono {i = limit - v} {j = 63} (omega (arith, h)))

    module _ (b : ℕ) (b_is : b ≡ bit (test (v - 1))) where
      one : b ≤ 1
      one = omega (arith, b_is, bit_most (test (v - 1)))

      pub mark_most : limit ≤ 64 → 2 * word + b < 18446744073709551616
      mark_most few = omega (arith, mark_fits few, one)

      mark_bits : (k : ℕ) → in_word (2 * word + b) k ≡ ltb (v - 1 + k) limit && test (v - 1 + k)
      mark_bits zero =
          in_first word b one
          ∙ ap (λ (n : ℕ). eqb n 1) b_is
          ∙ bit_marked (test (v - 1))
          ∙ sym (ap (λ (x : Bool). x && test (v - 1)) (lt-ltb (v - 1) limit (omega (arith, h, c.within))))
          ∙ ap (λ (n : ℕ). ltb n limit && test n) (sym (add-zero (v - 1)))
      mark_bits (suc k) =
          let e : v + k ≡ v - 1 + suc k = omega (arith, h) in
          in_later word b k one ∙ c.bits k ∙ ap (λ (n : ℕ). ltb n limit && test n) e

      pub mark_next : Marking (v - 1) (2 * word + b)
      mark_next =
          let more : limit - (v - 1) ≡ suc (limit - v) = omega (arith, h, c.within) in
          record {
            within = omega (arith, c.within);
            small = subst (λ (n : ℕ). 2 * word + b < 2 ^ n) (sym more) (omega (arith, pow-suc 2 (limit - v), c.small, one));
            bits = mark_bits;
          }

  pub mark_end : (v word : ℕ) → Marking v word → v ≤ 0 → (k : ℕ) → in_word word k ≡ ltb k limit && test k
  mark_end v word c l k =
      let e : v + k ≡ k = omega arith in
      c.bits k ∙ ap (λ (n : ℕ). ltb n limit && test n) e

  -- a number below the limit is in the word where it passes the test
  pub mark_below : (v word : ℕ) → Marking v word → v ≤ 0 → (k : ℕ) → k < limit → in_word word k ≡ test k
  mark_below v word c l k h = mark_end v word c l k ∙ ap (λ (b : Bool). b && test k) (lt-ltb k limit h)
