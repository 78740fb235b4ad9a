-- Laws of what the writers write: one part of a file placed behind another.
use Prim.Native.Nat.{ℕ, ◌+◌, ◌-◌, ◌≤◌, ◌<◌}
use mathlib.Core.Path.{◌≡◌, refl, sym, ap, ◌∙◌}
use mathlib.Core.List.{List, [], ◌∷◌, ◌++◌}
use native.Mathlib.Omega.{arith}
use lib.ListN.{length}
use Rattle.files.specs.Below.{tabulate_from}
use Rattle.files.specs.Bytes.{u16_bytes, u32_bytes, placed}
use Rattle.files.specs.Records.{record_bytes, signed}
use Rattle.files.proofs.Tabulate.{tabulate_from_none, tabulate_from_next}
use Rattle.files.proofs.Placed.{placed_then}
use Rattle.files.proofs.Lengths.{u16_bytes_length, u32_bytes_length}

-- what is placed behind a number
pub placed_u16_then : (b c : List ℕ) (at next n : ℕ) (xs : List ℕ) → c ≡ placed b at (u16_bytes n) → next ≡ at + 2 → placed c next xs ≡ placed b at (u16_bytes n ++ xs)
placed_u16_then b c at next n xs e f = placed_then b c at next (u16_bytes n) xs e (omega (arith, u16_bytes_length n))

pub placed_u32_then : (b c : List ℕ) (at next n : ℕ) (xs : List ℕ) → c ≡ placed b at (u32_bytes n) → next ≡ at + 4 → placed c next xs ≡ placed b at (u32_bytes n ++ xs)
placed_u32_then b c at next n xs e f = placed_then b c at next (u32_bytes n) xs e (omega (arith, u32_bytes_length n))

-- a body behind the head of its record
pub placed_record : (b head all : List ℕ) (at kind bytes : ℕ) (body : List ℕ)
    → head ≡ placed b at (u16_bytes bytes ++ u16_bytes kind)
    → bytes ≡ length body
    → all ≡ placed head (at + 4) body
    → all ≡ placed b at (record_bytes kind body)
unfolding record_bytes u16_bytes
placed_record b head all at kind bytes body h f e =
    e
    ∙ placed_then b head at (at + 4) (u16_bytes bytes ++ u16_bytes kind) body h refl
    ∙ ap (λ (n : ℕ). placed b at (u16_bytes n ++ u16_bytes kind ++ body)) f

-- the sign-off behind the records
pub placed_signed : (b c all : List ℕ) (end signer : ℕ) (records : List ℕ)
    → c ≡ placed b 0 records
    → end ≡ length records
    → all ≡ placed c end (record_bytes 5 (u32_bytes signer ++ u32_bytes end))
    → all ≡ placed b 0 (signed signer records)
unfolding signed
placed_signed b c all end signer records h f e =
    e
    ∙ placed_then b c 0 end records (record_bytes 5 (u32_bytes signer ++ u32_bytes end)) h (omega arith)
    ∙ ap (λ (n : ℕ). placed b 0 (records ++ record_bytes 5 (u32_bytes signer ++ u32_bytes n))) f

-- a loop that writes the entries of a tabulated list: at its end nothing is left to be placed,
-- and a turn places the bytes of one entry
module _ {A : Type 0} (bytes : List A → List ℕ) (f : ℕ → A) (b : List ℕ) (at i count : ℕ) where
  pub placed_none : count ≤ i → bytes [] ≡ [] → b ≡ placed b at (bytes (tabulate_from i (count - i) f))
  unfolding placed
  placed_none h e = sym (ap (λ (l : List A). placed b at (bytes l)) (tabulate_from_none f i count h) ∙ ap (placed b at) e)

  pub placed_next : (one : A → List ℕ) (c : List ℕ) (next : ℕ)
      → i < count
      → bytes (f i ∷ tabulate_from (i + 1) (count - (i + 1)) f) ≡ one (f i) ++ bytes (tabulate_from (i + 1) (count - (i + 1)) f)
      → c ≡ placed b at (one (f i))
      → next ≡ at + length (one (f i))
      → placed c next (bytes (tabulate_from (i + 1) (count - (i + 1)) f)) ≡ placed b at (bytes (tabulate_from i (count - i) f))
  placed_next one c next h e p q =
      placed_then b c at next (one (f i)) (bytes (tabulate_from (i + 1) (count - (i + 1)) f)) p q
      ∙ sym (ap (λ (l : List A). placed b at (bytes l)) (tabulate_from_next f i count h) ∙ ap (placed b at) e)
