-- Laws of `placed` and `overwrite`: lengths, one list after another, and what stands where.
use Prim.Native.Nat.{ℕ, zero, suc, ◌+◌, ◌-◌, ◌≤◌, ◌<◌}
use mathlib.Core.Path.{◌≡◌, refl, sym, ap, ap₂, ◌∙◌}
use mathlib.Core.Bool.{Bool, true, false}
use mathlib.Core.List.{List, [], ◌∷◌, ◌++◌}
use native.Mathlib.Omega.{arith}
use native.Mathlib.Nat.{add-zero}
use borrow.Rule.Slice.PartMut.{put_mid}
use Rattle.std.proofs.Common.{append_assoc, add-one}
use lib.ListN.{length, get_or, set, take, drop, length-set, length-append, length-drop, get_or-append}
use lib.Seq.{sets, sets-eq, drop-drop, get_or-set_same, get_or-set_other, ext_get_or, get_or-drop, get_or-append-add}
use lib.Dec.{leb}
use borrow.Author.Tests.{leb-true, leb-false}
use Rattle.files.specs.Bytes.{placed}
use Rattle.files.specs.Outcome.{overwrite}

pub placed_length : (b : List ℕ) (at : ℕ) (xs : List ℕ) → length (placed b at xs) ≡ length b
unfolding placed
placed_length b at [] = refl
placed_length b at (x ∷ xs) = placed_length (set b at x) (at + 1) xs ∙ length-set b at x

-- a list that is copied into a part of its length
placed_sets : (b : List ℕ) (at : ℕ) (xs : List ℕ) → sets b at xs ≡ placed b at xs
unfolding placed
placed_sets b at [] = refl
placed_sets b at (x ∷ xs) = ap (λ (i : ℕ). sets (set b at x) i xs) (sym (add-one at)) ∙ placed_sets (set b at x) (at + 1) xs

pub placed_at_once : (b : List ℕ) (at k : ℕ) (xs part : List ℕ) → at + length xs ≤ length b → k ≡ length xs → part ≡ xs → put_mid at k b part ≡ placed b at xs
placed_at_once b at k xs part h ek e =
    ap₂ (λ (m : ℕ) (l : List ℕ). take at b ++ (l ++ drop m (drop at b))) ek e
    ∙ ap (λ (l : List ℕ). take at b ++ (xs ++ l)) (drop-drop (length xs) at b)
    ∙ sym (append_assoc (take at b) xs (drop (at + length xs) b))
    ∙ sym (sets-eq xs b at h)
    ∙ placed_sets b at xs

-- one list behind another
pub placed_append : (b : List ℕ) (at : ℕ) (xs ys : List ℕ) → placed b at (xs ++ ys) ≡ placed (placed b at xs) (at + length xs) ys
unfolding placed
placed_append b at [] ys = ap (λ (n : ℕ). placed b n ys) (sym (add-zero at))
placed_append b at (x ∷ xs) ys =
    let e : at + 1 + length xs ≡ at + suc (length xs) = omega arith in
    placed_append (set b at x) (at + 1) xs ys ∙ ap (λ (n : ℕ). placed (placed (set b at x) (at + 1) xs) n ys) e

-- the same from the code's side: a second list placed where the first ends
pub placed_then : (b c : List ℕ) (at next : ℕ) (xs ys : List ℕ) → c ≡ placed b at xs → next ≡ at + length xs → placed c next ys ≡ placed b at (xs ++ ys)
placed_then b c at next xs ys e f =
    ap (λ (l : List ℕ). placed l next ys) e
    ∙ ap (λ (n : ℕ). placed (placed b at xs) n ys) f
    ∙ sym (placed_append b at xs ys)

-- entries before, in and behind what is placed
pub placed_before : (b : List ℕ) (at : ℕ) (xs : List ℕ) (i : ℕ) → i < at → get_or (placed b at xs) i 0 ≡ get_or b i 0
unfolding placed
placed_before b at [] i h = refl
placed_before b at (x ∷ xs) i h = placed_before (set b at x) (at + 1) xs i (omega arith) ∙ get_or-set_other b at i x 0 (omega arith)

pub placed_in : (b : List ℕ) (at : ℕ) (xs : List ℕ) (i : ℕ) → at + length xs ≤ length b → i < length xs → get_or (placed b at xs) (at + i) 0 ≡ get_or xs i 0
unfolding placed
placed_in b at [] i h k = absurd (omega arith)
placed_in b at (x ∷ xs) zero h k =
    placed_before (set b at x) (at + 1) xs (at + 0) (omega arith)
    ∙ ap (λ (n : ℕ). get_or (set b at x) n 0) (add-zero at)
    ∙ get_or-set_same b at x 0 (omega arith)
placed_in b at (x ∷ xs) (suc i) h k =
    let e : at + suc i ≡ at + 1 + i = omega arith in
    ap (λ (n : ℕ). get_or (placed (set b at x) (at + 1) xs) n 0) e
    ∙ placed_in (set b at x) (at + 1) xs i (omega (arith, length-set b at x)) (omega arith)

pub placed_behind : (b : List ℕ) (at : ℕ) (xs : List ℕ) (i : ℕ) → at + length xs ≤ i → get_or (placed b at xs) i 0 ≡ get_or b i 0
unfolding placed
placed_behind b at [] i h = refl
placed_behind b at (x ∷ xs) i h = placed_behind (set b at x) (at + 1) xs i (omega arith) ∙ get_or-set_other b at i x 0 (omega arith)

pub overwrite_length : {A : Type 0} (old new : List A) → length new ≤ length old → length (overwrite old new) ≡ length old
unfolding overwrite
overwrite_length old new h = omega (arith, length-append new (drop (length new) old), length-drop (length new) old)

-- bytes placed from 0 on overwrite the buffer's front
pub placed_overwrite : (b xs : List ℕ) → length xs ≤ length b → placed b 0 xs ≡ overwrite b xs
unfolding overwrite
placed_overwrite b xs h = ext_get_or 0 (placed b 0 xs) (xs ++ drop (length xs) b) same_length same_entry_lem
  where
    same_length : length (placed b 0 xs) ≡ length (xs ++ drop (length xs) b)
    same_length = placed_length b 0 xs ∙ sym (overwrite_length b xs h)

    entry : (i : ℕ) → (t : Bool) → leb (length xs) i ≡ t → get_or (placed b 0 xs) i 0 ≡ get_or (xs ++ drop (length xs) b) i 0
    entry i true e =
        let l : length xs ≤ i = leb-true (length xs) i e in
        placed_behind b 0 xs i (omega arith)
        ∙ ap (λ (n : ℕ). get_or b n 0) (omega arith)
        ∙ sym (get_or-drop (length xs) b (i - length xs) 0)
        ∙ sym (get_or-append-add xs (drop (length xs) b) (i - length xs) 0)
        ∙ ap (λ (n : ℕ). get_or (xs ++ drop (length xs) b) n 0) (omega arith)
    entry i false e =
        let l : i < length xs = leb-false (length xs) i e in
        ap (λ (n : ℕ). get_or (placed b 0 xs) n 0) (omega arith)
        ∙ placed_in b 0 xs i (omega arith) l
        ∙ sym (get_or-append xs (drop (length xs) b) 0 i l)

    same_entry_lem : (i : ℕ) → i < length (placed b 0 xs) → get_or (placed b 0 xs) i 0 ≡ get_or (xs ++ drop (length xs) b) i 0
    same_entry_lem i l = entry i (leb (length xs) i) refl
