-- A file reads as its content under its signer exactly where its check is done.
use Prim.Native.Nat.{ℕ}
use mathlib.Core.Path.{◌≡◌, refl}
use mathlib.Core.Bool.{Bool, true, false, cond}
use native.Mathlib.Omega.{arith}
use Rattle.files.specs.Outcome.{Outcome, is_done}
use Rattle.files.specs.Reading.{refused, under, reading}
use Rattle.files.proofs.Guards.{is_done_lem, done_number}

module _ {A : Type 0} (o : Outcome) (content : A) (signer : ℕ) where
  pub reads_as : (c : A) (s : ℕ) → o.number ≡ 0 → content ≡ c → signer ≡ s → reading o content signer ≡ under c s
  reads_as c s e p q = rw (is_done_lem o e) (λ i. under (p i) (q i))

  pub read_as : (c : A) (s : ℕ) → reading o content signer ≡ under c s → (o.number ≡ 0) × (content ≡ c) × (signer ≡ s)
  read_as c s e = go (is_done o) refl e
    where
      go : (t : Bool) → is_done o ≡ t → cond t (under content signer) (refused o) ≡ under c s → (o.number ≡ 0) × (content ≡ c) × (signer ≡ s)
      go true q r = (done_number o q, cc, cc)
      go false q r = let z : ◌≡◌ {A = ℕ} 0 1 = cc in absurd (omega arith)
