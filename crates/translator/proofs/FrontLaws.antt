-- Laws of the front of a list: what two lists share that agree on their first elements, and how many elements at the front
-- pass a test.
use Prim.Native.Nat.{ℕ, zero, suc, ◌≤◌}
use mathlib.Core.Path.{◌≡◌, refl, sym, ap, subst}
use mathlib.Core.Bool.{Bool, true, false, cond}
use mathlib.Core.List.{List, [], ◌∷◌, ◌++◌, nil≢cons, head-eq_of_cons-eq, tail-eq_of_cons-eq}
use native.Mathlib.Omega.{arith}
use lib.ListN.{length, get_or, take, drop}
use Rattle.files.specs.Below.{all_of}
use Rattle.files.proofs.Logic.{split, and_join, and_split}

-- lists that agree on their first k elements
abbrev pub Agree : ℕ → List ℕ → List ℕ → Type 0
Agree k a b = take k a ≡ take k b

pub agree_first : (k : ℕ) (a b : List ℕ) → Agree (suc k) a b → get_or a 0 0 ≡ get_or b 0 0
agree_first k [] [] e = refl
agree_first k [] (y ∷ b) e = absurd (nil≢cons e)
agree_first k (x ∷ a) [] e = absurd (nil≢cons (sym e))
agree_first k (x ∷ a) (y ∷ b) e = head-eq_of_cons-eq e

pub agree_past : (k : ℕ) (a b : List ℕ) → Agree (suc k) a b → Agree 1 (drop k a) (drop k b)
agree_past zero a b e = e
agree_past (suc k) [] [] e = refl
agree_past (suc k) [] (y ∷ b) e = absurd (nil≢cons e)
agree_past (suc k) (x ∷ a) [] e = absurd (nil≢cons (sym e))
agree_past (suc k) (x ∷ a) (y ∷ b) e = agree_past k a b (tail-eq_of_cons-eq e)

-- how many elements stand before the first that fails a test
abbrev pub passing : (ℕ → Bool) → List ℕ → ℕ
passing test [] = 0
passing test (b ∷ rest) = cond (test b) (suc (passing test rest)) 0

module _ (test : ℕ → Bool) where
  pub passing_whole : (a : List ℕ) (b : ℕ) (rest : List ℕ) → all_of test a ≡ true → test b ≡ false → passing test (a ++ b ∷ rest) ≡ length a
  passing_whole [] b rest all fails = rw fails refl
  passing_whole (x ∷ a) b rest all fails =
      let both = and_split (test x) (all_of test a) all in
      rw both.0 (ap suc (passing_whole a b rest both.1 fails))

  pub passing_within : (r : List ℕ) → passing test r ≤ length r
  passing_within [] = omega arith
  passing_within (b ∷ r) = split (test b) (λ e. rw e (omega (arith, passing_within r))) (λ e. rw e (omega arith))

  pub passing_pass : (r : List ℕ) → all_of test (take (passing test r) r) ≡ true
  passing_pass [] = refl
  passing_pass (b ∷ r) = split (test b) (λ e. rw e (and_join e (passing_pass r))) (λ e. rw e refl)

  pub passing_agree : (r s : List ℕ) → Agree (suc (passing test r)) s r → passing test s ≡ passing test r
  passing_agree [] [] e = refl
  passing_agree [] (y ∷ s) e = absurd (nil≢cons (sym e))
  passing_agree (x ∷ r) [] e = absurd (nil≢cons e)
  passing_agree (x ∷ r) (y ∷ s) e =
      let first : y ≡ x = head-eq_of_cons-eq e in
      split (test x)
      (λ p.
      let agree : Agree (suc (passing test r)) s r = subst (λ (t : Bool). take (cond t (suc (passing test r)) 0) s ≡ take (cond t (suc (passing test r)) 0) r) p (tail-eq_of_cons-eq e) in
      rw (first, p) (ap suc (passing_agree r s agree)))
      (λ p. rw (first, p) refl)
