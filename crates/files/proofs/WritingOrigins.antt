-- Laws of what the writer of origin files writes: the records of variable origins, and the file.
use Prim.Native.Nat.{ℕ, ◌+◌, ◌*◌, ◌-◌, ◌≤◌, ◌<◌}
use mathlib.Core.Path.{◌≡◌, sym, ap, ap₂, ◌∙◌}
use mathlib.Core.List.{List, ◌∷◌, ◌++◌, map}
use native.Mathlib.Omega.{arith}
use lib.ListN.{length, get_or, take, drop, length-append, length-take, length-drop}
use Rattle.std.proofs.Common.{drop-cons, add-one, get_or-take, get_or-drop}
use Rattle.std.proofs.lemmas.List.{map-id, drop_all}
use Rattle.files.proofs.Tabulate.{tabulate_is}
use Rattle.files.specs.Below.{tabulate}
use Rattle.files.specs.Bytes.{u16_bytes, u32_bytes, placed}
use Rattle.files.specs.Dense.{row_numbers, row_origin, held_origin}
use Rattle.files.specs.declared.arrays.OriginArrays.{OriginArrays}
use Rattle.files.specs.Lengths.{origins_needed}
use Rattle.files.specs.OriginFile.{origin_body, variable_origin_bytes, origin_file}
use Rattle.files.specs.Records.{record_bytes, number_bytes}
use Rattle.files.proofs.Countdown.{more_from, none_from}
use Rattle.files.proofs.Placed.{placed_then}
use Rattle.files.proofs.RowLaws.{row_numbers_length}
use Rattle.files.proofs.Lengths.{u16_bytes_length, record_bytes_length, number_bytes_length, variable_origin_bytes_length}
use Rattle.files.proofs.Writing.{placed_u16_then, placed_record, placed_signed}

-- the bytes that the variable origins from place i on take, of `count`
module _ (sizes : List ℕ) (i count : ℕ) where
  pub origins_needed_none : count ≤ i → origins_needed sizes i (count - i) ≡ 0
  unfolding origins_needed
  origins_needed_none h = ap (origins_needed sizes i) (none_from i count h)

  pub origins_needed_next : i < count → origins_needed sizes i (count - i) ≡ 6 + 2 * get_or sizes i 0 + origins_needed sizes (i + 1) (count - (i + 1))
  unfolding origins_needed
  origins_needed_next h = ap (origins_needed sizes i) (more_from i count h)

-- numbers placed one behind the other, from place i on
module _ {A : Type 0} (value : A → ℕ) (b : List ℕ) (at i : ℕ) (xs : List A) (whole : List ℕ) (w : placed b (at + 2 * i) (number_bytes (map value (drop i xs))) ≡ whole) where
  pub numbers_placed_next : (x : A) (n : ℕ) (c : List ℕ) → i < length xs → x ≡ get_or xs i x → n ≡ value x → c ≡ placed b (at + 2 * i) (u16_bytes n)
      → placed c (at + 2 * (i + 1)) (number_bytes (map value (drop (i + 1) xs))) ≡ whole
  unfolding number_bytes
  numbers_placed_next x n c h ex en e =
      let rest : List ℕ = number_bytes (map value (drop (i + 1) xs)) in
      let first : drop i xs ≡ x ∷ drop (i + 1) xs = drop-cons xs i x h ∙ ap₂ (λ (y : A) (k : ℕ). y ∷ drop k xs) (sym ex) (sym (add-one i)) in
      placed_then b c (at + 2 * i) (at + 2 * (i + 1)) (u16_bytes n) rest e (omega (arith, u16_bytes_length n))
      ∙ ap (λ (m : ℕ). placed b (at + 2 * i) (u16_bytes m ++ rest)) en
      ∙ sym (ap (λ (l : List A). placed b (at + 2 * i) (number_bytes (map value l))) first)
      ∙ w

  pub numbers_placed_all : length xs ≤ i → b ≡ whole
  unfolding number_bytes placed
  numbers_placed_all h = sym (ap (λ (l : List A). placed b (at + 2 * i) (number_bytes (map value l))) (drop_all i xs h)) ∙ w

-- a part of a row, as the row's numbers
pub row_part : (row : List ℕ) (base count n : ℕ) → base + count ≤ length row → n ≡ count → map (λ x. x) (take n (drop base row)) ≡ row_numbers row base count
unfolding row_numbers
row_part row base count n h e =
    let part : List ℕ = take count (drop base row) in
    let long : length part ≡ count = omega (arith, length-take count (drop base row), length-drop base row) in
    ap (λ (k : ℕ). map (λ x. x) (take k (drop base row))) e
    ∙ map-id part
    ∙ sym (tabulate_is (λ i. get_or row (base + i) 0) count part 0 long (λ k l. sym (get_or-take count (drop base row) k 0 l ∙ get_or-drop base row k 0)))

-- the record of a variable origin from its parts: head, number, values
pub placed_origin : (numbers sizes values : List ℕ) (i : ℕ) (b head number all : List ℕ) (at n size : ℕ)
    → size ≡ get_or sizes i 0
    → n ≡ get_or numbers i 0
    → head ≡ placed b at (u16_bytes (2 + 2 * size) ++ u16_bytes 6)
    → number ≡ placed head (at + 4) (u16_bytes n)
    → all ≡ placed number (at + 6) (number_bytes (row_numbers values (32 * i) size))
    → all ≡ placed b at (record_bytes 6 (origin_body (row_origin numbers sizes values i)))
unfolding row_origin origin_body
placed_origin numbers sizes values i b head number all at n size p q h e f =
    let row = number_bytes (row_numbers values (32 * i) size) in
    placed_record b head all at 6 (2 + 2 * size) (u16_bytes n ++ row) h
    (simp (length-append, u16_bytes_length, number_bytes_length, row_numbers_length) (omega arith))
    (f ∙ placed_u16_then head number (at + 4) (at + 6) n row e (omega arith))
    ∙ ap₂ (λ (j k : ℕ). placed b at (record_bytes 6 (u16_bytes j ++ number_bytes (row_numbers values (32 * i) k)))) q p

-- the file of origins from its parts: variable origins, the head and the numbers of action origins, sign-off
pub placed_origins : (d : OriginArrays) (signer : ℕ) (b variables head numbers all : List ℕ) (at : ℕ)
    → variables ≡ placed b 0 (variable_origin_bytes (tabulate d.variables (row_origin d.numbers d.sizes d.values)))
    → at ≡ origins_needed d.sizes 0 d.variables
    → head ≡ placed variables at (u16_bytes (2 * d.actions) ++ u16_bytes 7)
    → numbers ≡ placed head (at + 4) (number_bytes (row_numbers d.originals 0 d.actions))
    → all ≡ placed numbers (at + 4 + 2 * d.actions) (record_bytes 5 (u32_bytes signer ++ u32_bytes (at + 4 + 2 * d.actions)))
    → all ≡ placed b 0 (origin_file (held_origin d) signer)
unfolding origin_file held_origin
placed_origins d signer b variables head numbers all at v p h n s =
    let o = held_origin d in
    let written = variable_origin_bytes_length d.numbers d.sizes d.values 0 d.variables in
    let actions = record_bytes 7 (number_bytes o.actions) in
    placed_signed b numbers all (at + 4 + 2 * d.actions) signer (variable_origin_bytes o.variables ++ actions)
    (placed_record variables head numbers at 7 (2 * d.actions) (number_bytes o.actions) h (simp (number_bytes_length, row_numbers_length)) n
    ∙ placed_then b variables 0 at (variable_origin_bytes o.variables) actions v (omega arith))
    (simp (length-append, record_bytes_length, number_bytes_length, row_numbers_length) (omega arith))
    s
