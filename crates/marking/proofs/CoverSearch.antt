-- The search for an action that covers another: at its start, from one action to the next, at its end, and what it says.
use Prim.Native.Nat.{ℕ, ◌+◌, ◌*◌, ◌≤◌, ◌<◌}
use mathlib.Core.Path.{◌≡◌, sym, ap, ◌∙◌}
use mathlib.Core.Bool.{Bool, true, false, ◌&&◌, and-false}
use mathlib.Core.List.{List}
use native.Mathlib.Omega.{arith}
use borrow.Author.Tests.{lt-ltb, le-ltb}
use Rattle.bits.specs.Sets.{in_words, FirstFrom}
use Rattle.files.specs.Below.{any_below}
use Rattle.files.proofs.BelowLaws.{any_below_intro, any_below_elim}
use Rattle.files.proofs.Logic.{clash, split, split_le, and_join}
use Rattle.marking.specs.Clauses.{CovererIs}
use Rattle.marking.specs.Dense.{kept_alike, covers_at, covered_at}

module _ (kept table effects tracked : List ℕ) (variables actions a : ℕ) where
  abbrev covering : ℕ → Bool
  covering b = covers_at kept table effects tracked variables b a

  -- no action from `from` on before `next` covers a
  pub record Sought (from next : ℕ) : Type 0 where
    pub first : from ≤ next
    pub within : next ≤ actions
    pub none : (j : ℕ) → from ≤ j → j < next → covering j ≡ false

  -- what could not cover does not
  skipped : (j : ℕ) → in_words table (8 * a) j ≡ false → covering j ≡ false
  unfolding covers_at
  skipped j e = ap (λ (t : Bool). t && kept_alike kept effects tracked variables j a) e

  unlike : (j : ℕ) → kept_alike kept effects tracked variables j a ≡ false → covering j ≡ false
  unfolding covers_at
  unlike j e = ap (λ (t : Bool). in_words table (8 * a) j && t) e ∙ and-false (in_words table (8 * a) j)

  pub sought_begin : (from : ℕ) → from ≤ actions → Sought from from
  sought_begin from few = record { first = omega arith; within = few; none = λ j h l. absurd (omega arith) }

  module _ (from next b : ℕ) (s : Sought from next) (f : FirstFrom (in_words table (8 * a)) actions next b) where
    passed : (j : ℕ) → from ≤ j → j < b → covering j ≡ false
    passed j h l = split_le next j (λ m. skipped j (f.skipped j m l)) (λ m. s.none j h m)

    pub sought_next : b < actions → kept_alike kept effects tracked variables b a ≡ false → Sought from (b + 1)
    sought_next l e =
        record {
          first = omega (arith, s.first, f.first);
          within = omega arith;
          none = λ j h m. split_le b j (λ k. let here : j ≡ b = omega arith in rw here (unlike b e)) (λ k. passed j h k);
        }

    pub sought_found : b < actions → kept_alike kept effects tracked variables b a ≡ true → FirstFrom covering actions from b
    unfolding covers_at
    sought_found l e = record { first = omega (arith, s.first, f.first); last = f.last; skipped = passed; there = λ m. and_join (f.there l) e }

  pub sought_none : (from next : ℕ) → Sought from next → FirstFrom (in_words table (8 * a)) actions next actions → FirstFrom covering actions from actions
  sought_none from next s f =
      record { first = omega (arith, s.first, s.within); last = omega arith; skipped = passed from next actions s f; there = λ l. absurd (omega arith) }

  -- what is found covers, wherever the search began
  pub coverer_found : (from r : ℕ) → actions ≤ 512 → FirstFrom covering actions from r → r < actions → CovererIs r actions (covered_at kept table effects tracked variables actions a)
  unfolding covered_at
  coverer_found from r few f l = record { is = lt-ltb r actions l ∙ sym (any_below_intro actions covering r l (f.there l)); at_most = omega arith }

  -- where the search began with the first action, none is left out
  pub coverer_first : (r : ℕ) → actions ≤ 512 → FirstFrom covering actions 0 r → CovererIs r actions (covered_at kept table effects tracked variables actions a)
  unfolding covered_at
  coverer_first r few f =
      split_le actions r
      (λ h.
      record {
        is =
            le-ltb r actions h
            ∙ sym
            (split (any_below actions covering)
            (λ e. let found = any_below_elim actions covering e in clash found.2 (f.skipped found.0 (omega arith) (omega (arith, found.1))))
            (λ e. e));
        at_most = omega (arith, f.last);
      })
      (λ l. coverer_found 0 r few f l)
