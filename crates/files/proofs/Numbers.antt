-- Numbers of two bytes that stand in a row: what is read there, what a check has found there, and that they are below a limit.
use Prim.Native.Nat.{ℕ, zero, suc, ◌+◌, ◌*◌, ◌≤◌, ◌<◌}
use mathlib.Core.Path.{◌≡◌, refl, ap, ◌∙◌}
use mathlib.Core.Bool.{Bool, true}
use mathlib.Core.List.{List, [], ◌∷◌}
use native.Mathlib.Omega.{arith}
use lib.ListN.{length, get_or}
use lib.Dec.{ltb}
use Rattle.files.specs.Below.{all_of}
use Rattle.files.specs.Bytes.{Octets, u16_at, u16_bytes}
use Rattle.files.specs.Records.{numbers_at, numbers_from, number_bytes}
use Rattle.files.proofs.Done.{facts}
use Rattle.files.proofs.Stands.{Stands, stands_none, stands_left, stands_right, stands_join, stands_u16, u16_stands}

pub numbers_length : (s : List ℕ) (at count : ℕ) → length (numbers_from s at count) ≡ count
unfolding numbers_from
numbers_length s at zero = refl
numbers_length s at (suc count) = ap suc (numbers_length s (at + 2) count)

pub numbers_entry : (s : List ℕ) (at k i : ℕ) → i < k → get_or (numbers_from s at k) i 0 ≡ u16_at s (at + 2 * i)
unfolding numbers_from
numbers_entry s at zero i h = absurd (omega arith)
numbers_entry s at (suc k) zero h = ap (u16_at s) (omega arith)
numbers_entry s at (suc k) (suc i) h = numbers_entry s (at + 2) k i (omega arith) ∙ ap (u16_at s) (omega arith)

abbrev pub all_under : ℕ → List ℕ → Bool
all_under limit ns = all_of (λ n. ltb n limit) ns

module _ (limit : ℕ) (f : List ℕ) where
  -- numbers that were written are read
  pub numbers_read : (ns : List ℕ) (at : ℕ) → limit ≤ 65536 → Stands f at (number_bytes ns) → all_under limit ns ≡ true → numbers_from f at (length ns) ≡ ns
  unfolding numbers_from number_bytes u16_bytes
  numbers_read [] at l s u = refl
  numbers_read (n ∷ ns) at l s u =
      let under = simp facts at u in
      let first : u16_at f at ≡ n = stands_u16 n (stands_left (u16_bytes n) (number_bytes ns) s) (omega arith) in
      let rest = numbers_read ns (at + 2) l (stands_right (u16_bytes n) (number_bytes ns) (omega arith) s) under.1 in
      λ i. first i ∷ rest i

  -- the check is done where the numbers read are below the limit, and only there
  pub numbers_under : (at count : ℕ) → (numbers_at limit f at count).number ≡ 0 → all_under limit (numbers_from f at count) ≡ true
  unfolding numbers_at numbers_from
  numbers_under at zero e = refl
  numbers_under at (suc count) e =
      let under = simp facts at e in
      simp facts (under.0, numbers_under (at + 2) count under.1)

  pub under_numbers : (at count : ℕ) → all_under limit (numbers_from f at count) ≡ true → (numbers_at limit f at count).number ≡ 0
  unfolding numbers_at numbers_from
  under_numbers at zero e = refl
  under_numbers at (suc count) e =
      let under = simp facts at e in
      simp facts (under.0, under_numbers (at + 2) count under.1)

pub numbers_stand : (f : List ℕ) → Octets f → (at count : ℕ) → at + 2 * count ≤ length f → Stands f at (number_bytes (numbers_from f at count))
unfolding numbers_from number_bytes u16_bytes
numbers_stand f o at zero h = stands_none f at (omega arith)
numbers_stand f o at (suc count) h =
    stands_join (u16_bytes (u16_at f at)) (number_bytes (numbers_from f (at + 2) count)) (omega arith)
    (u16_stands f o at (omega arith))
    (numbers_stand f o (at + 2) count (omega arith))
