-- Bytes that stand at a place of a file: what is read there, and what is written there.
use Prim.Native.Nat.{ℕ, zero, suc, ◌+◌, ◌*◌, ◌-◌, ◌/◌, ◌%◌, ◌≤◌, ◌<◌}
use mathlib.Core.Path.{◌≡◌, refl, sym, ap, ◌∙◌}
use mathlib.Core.Bool.{Bool, true, false}
use mathlib.Core.List.{List, [], ◌++◌}
use native.Mathlib.Omega.{arith}
use lib.ListN.{length, get_or, length-append, get_or-append, get_or-eq_default}
use lib.Seq.{ext_get_or, get_or-append-add}
use lib.Dec.{leb}
use borrow.Author.Tests.{leb-true, leb-false}
use Rattle.files.specs.Bytes.{Octets, u16_at, u32_at, u16_bytes, u32_bytes}

pub record Stands (f : List ℕ) (at : ℕ) (xs : List ℕ) : Type 0 where
  pub room : at + length xs ≤ length f
  pub same : (i : ℕ) → i < length xs → get_or f (at + i) 0 ≡ get_or xs i 0

-- an entry at a place that is written in two ways
same_place : (f : List ℕ) (i j : ℕ) → i ≡ j → get_or f i 0 ≡ get_or f j 0
same_place f i j e = ap (λ (n : ℕ). get_or f n 0) e

pub stands_none : (f : List ℕ) (at : ℕ) → at ≤ length f → Stands f at []
stands_none f at h = record { room = omega arith; same = λ i l. absurd (omega arith) }

pub whole_stands : (f : List ℕ) → Stands f 0 f
whole_stands f = record { room = omega arith; same = λ i l. same_place f (0 + i) i (omega arith) }

pub stands_whole : (f xs : List ℕ) → Stands f 0 xs → length xs ≡ length f → f ≡ xs
stands_whole f xs s e = ext_get_or 0 f xs (sym e) (λ i l. same_place f i (0 + i) (omega arith) ∙ s.same i (omega arith))

module _ {f : List ℕ} {at : ℕ} where
  -- the same bytes elsewhere, where the places are equal
  pub stands_at : {xs : List ℕ} {next : ℕ} → at ≡ next → Stands f at xs → Stands f next xs
  stands_at e s = rw (← e) s

  module _ (xs ys : List ℕ) where
    pub stands_left : Stands f at (xs ++ ys) → Stands f at xs
    stands_left s =
        record {
          room = omega (arith, s.room, length-append xs ys);
          same = λ i l. s.same i (omega (arith, length-append xs ys)) ∙ get_or-append xs ys 0 i l;
        }

    pub stands_right : {next : ℕ} → next ≡ at + length xs → Stands f at (xs ++ ys) → Stands f next ys
    stands_right {next} e s =
        record {
          room = omega (arith, s.room, length-append xs ys);
          same =
              λ i l. same_place f (next + i) (at + (length xs + i)) (omega arith)
              ∙ s.same (length xs + i) (omega (arith, length-append xs ys))
              ∙ get_or-append-add xs ys i 0;
        }

    pub stands_join : {next : ℕ} → next ≡ at + length xs → Stands f at xs → Stands f next ys → Stands f at (xs ++ ys)
    stands_join {next} e s t =
        record {
          room = omega (arith, t.room, length-append xs ys);
          same = λ i l. entry i (omega (arith, length-append xs ys)) (leb (length xs) i) refl;
        }
      where
        entry : (i : ℕ) → i < length xs + length ys → (b : Bool) → leb (length xs) i ≡ b → get_or f (at + i) 0 ≡ get_or (xs ++ ys) i 0
        entry i l true q =
            let h : length xs ≤ i = leb-true (length xs) i q in
            same_place f (at + i) (next + (i - length xs)) (omega arith)
            ∙ t.same (i - length xs) (omega arith)
            ∙ sym (get_or-append-add xs ys (i - length xs) 0)
            ∙ same_place (xs ++ ys) (length xs + (i - length xs)) i (omega arith)
        entry i l false q =
            let h : i < length xs = leb-false (length xs) i q in
            s.same i h ∙ sym (get_or-append xs ys 0 i h)

  pub stands_u16 : (n : ℕ) → Stands f at (u16_bytes n) → n < 65536 → u16_at f at ≡ n
  unfolding u16_at u16_bytes
  stands_u16 n s h =
      let at_least : get_or f at 0 ≡ n % 256 = same_place f at (at + 0) (omega arith) ∙ s.same 0 (omega arith) in
      let high : get_or f (at + 1) 0 ≡ n / 256 % 256 = s.same 1 (omega arith) in
      omega arith

  pub stands_u32 : (n : ℕ) → Stands f at (u32_bytes n) → n < 4294967296 → u32_at f at ≡ n
  unfolding u32_at u16_at u32_bytes u16_bytes
  stands_u32 n s h =
      let first : get_or f at 0 ≡ n % 256 = same_place f at (at + 0) (omega arith) ∙ s.same 0 (omega arith) in
      let second : get_or f (at + 1) 0 ≡ n / 256 % 256 = s.same 1 (omega arith) in
      let third : get_or f (at + 2) 0 ≡ n / 65536 % 256 = s.same 2 (omega arith) in
      let fourth : get_or f (at + 3) 0 ≡ n / 16777216 % 256 = s.same 3 (omega arith) in
      let above_first : n / 256 ≡ n / 256 % 256 + n / 65536 * 256 = omega arith in
      let above_second : n / 65536 ≡ n / 65536 % 256 + n / 16777216 * 256 = omega arith in
      let above_third : n / 16777216 % 256 ≡ n / 16777216 = omega arith in
      let whole : n ≡ n % 256 + n / 256 * 256 = omega arith in
      omega arith

module _ (f : List ℕ) (o : Octets f) (at : ℕ) where
  pub u32_below : u32_at f at < 4294967296
  unfolding u32_at u16_at
  u32_below = omega (arith, o at, o (at + 1), o (at + 2), o (at + 3))

  pub u16_stands : at + 2 ≤ length f → Stands f at (u16_bytes (u16_at f at))
  unfolding u16_at u16_bytes
  u16_stands h = record { room = omega arith; same = entry }
    where
      entry : (i : ℕ) → i < length (u16_bytes (u16_at f at)) → get_or f (at + i) 0 ≡ get_or (u16_bytes (u16_at f at)) i 0
      entry zero l = same_place f (at + 0) at (omega arith) ∙ omega (arith, o at, o (at + 1))
      entry (suc zero) l = omega (arith, o at, o (at + 1))
      entry (suc (suc i)) l = absurd (omega arith)

  pub u32_stands : at + 4 ≤ length f → Stands f at (u32_bytes (u32_at f at))
  unfolding u32_at u16_at u32_bytes u16_bytes
  u32_stands h = record { room = omega arith; same = entry }
    where
      entry : (i : ℕ) → i < length (u32_bytes (u32_at f at)) → get_or f (at + i) 0 ≡ get_or (u32_bytes (u32_at f at)) i 0
      entry zero l = same_place f (at + 0) at (omega arith) ∙ omega (arith, o at, o (at + 1), o (at + 2), o (at + 3))
      entry (suc zero) l = omega (arith, o at, o (at + 1), o (at + 2), o (at + 3))
      entry (suc (suc zero)) l = omega (arith, o at, o (at + 1), o (at + 2), o (at + 3))
      entry (suc (suc (suc zero))) l = omega (arith, o at, o (at + 1), o (at + 2), o (at + 3))
      entry (suc (suc (suc (suc i)))) l = absurd (omega arith)

-- behind the end of a file every number is 0
module _ (f : List ℕ) (at : ℕ) (past : length f ≤ at) where
  byte_past : (k : ℕ) → get_or f (at + k) 0 ≡ 0
  byte_past k = get_or-eq_default f 0 (omega arith)

  pub u16_past : 0 ≡ u16_at f at
  unfolding u16_at
  u16_past = omega (arith, get_or-eq_default f 0 past, byte_past 1)

  pub u32_past : 0 ≡ u32_at f at
  unfolding u32_at
  u32_past = omega (arith, u16_past, byte_past 2, byte_past 3)
