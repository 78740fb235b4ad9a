-- Laws of runs of stores, and what the stores of the code make: digits by threes from the right, blanks, and a column.
use Prim.Native.Nat.{ℕ, suc, ◌+◌, ◌-◌, ◌/◌, ◌%◌, ◌^◌, ◌≤◌, ◌<◌}
use mathlib.Core.Path.{◌≡◌, refl, sym, ap, ◌∙◌}
use mathlib.Core.List.{List, [], ◌∷◌, ◌++◌, append_assoc}
use native.Mathlib.Nat.{add-zero}
use native.Mathlib.Omega.{arith}
use lib.ListN.{length, set, take, drop, replicate, length-replicate, length-drop}
use lib.Seq.{sets, sets-eq, set_comm, length-sets, length-take-le}
use borrow.Rule.Slice.PartMut.{put_mid}
use Rattle.std.proofs.lemmas.List.{drop-drop}
use mir.Syntax.{w8}
use mir.Val.{Fits}
use Rattle.digits.specs.Clauses.{Counts}
use Rattle.digits.specs.Decimal.{decimal, column}
use Rattle.digits.specs.Groups.{packed_digits, three}
use Rattle.digits.proofs.GroupLaws.{decimal_one, decimal_two, decimal_front, decimal_length, decimal_next, decimal_next_length, packed_hundreds, packed_tens, packed_units, packed_two, packed_one}

-- runs of stores

pub sets_append : (b : List ℕ) (at : ℕ) (xs ys : List ℕ) → sets b at (xs ++ ys) ≡ sets (sets b at xs) (at + length xs) ys
sets_append b at [] ys = ap (λ (n : ℕ). sets b n ys) (sym (add-zero at))
sets_append b at (x ∷ xs) ys =
    let e : suc at + length xs ≡ at + suc (length xs) = omega arith in
    sets_append (set b at x) (suc at) xs ys ∙ ap (λ (n : ℕ). sets (sets (set b at x) (suc at) xs) n ys) e

pub sets_same : (b last : List ℕ) (at : ℕ) (xs : List ℕ) → last ≡ sets b at xs → length last ≡ length b
sets_same b last at xs e = ap (λ (l : List ℕ). length l) e ∙ length-sets b at xs

-- a part of a buffer that is written over at once
pub part_set : (b xs : List ℕ) (at k : ℕ) → length xs ≡ k → at + k ≤ length b → put_mid at k b xs ≡ sets b at xs
part_set b xs at k l h =
    ap (λ (r : List ℕ). take at b ++ (xs ++ r)) (drop-drop k at b ∙ ap (λ (n : ℕ). drop (at + n) b) (sym l))
    ∙ sym (append_assoc (take at b) xs (drop (at + length xs) b))
    ∙ sym (sets-eq xs b at (omega arith))

-- a store before a run, and two runs that do not overlap: either may be first
sets_set : (b : List ℕ) (i x p : ℕ) (ys : List ℕ) → i < p → set (sets b p ys) i x ≡ sets (set b i x) p ys
sets_set b i x p [] h = refl
sets_set b i x p (y ∷ ys) h =
    sets_set (set b p y) i x (suc p) ys (omega (arith, h)) ∙ ap (λ (l : List ℕ). sets l (suc p) ys) (set_comm b p i y x (λ e. omega (arith, h, e)))

pub sets_swap : (b : List ℕ) (at p : ℕ) (xs ys : List ℕ) → at + length xs ≤ p → sets (sets b p ys) at xs ≡ sets (sets b at xs) p ys
sets_swap b at p [] ys h = refl
sets_swap b at p (x ∷ xs) ys h =
    ap (λ (l : List ℕ). sets l (suc at) xs) (sets_set b at x p ys (omega (arith, h))) ∙ sets_swap (set b at x) (suc at) p xs ys (omega (arith, h))

-- a number below 1,000: `d` is what `packed` answers

pub hundreds_fit : (n d : ℕ) → d ≡ packed_digits n → n < 1000 → Fits w8 (48 + d / 256)
hundreds_fit n d e h =
    let q : d / 256 ≡ n / 100 = ap (λ (x : ℕ). x / 256) e ∙ packed_hundreds n in
    record { fits = omega (arith, q, h) }

pub tens_fit : (n d : ℕ) → d ≡ packed_digits n → n ≤ 99 → Fits w8 (48 + d / 16)
tens_fit n d e h =
    let q : d / 16 ≡ n / 10 = ap (λ (x : ℕ). x / 16) e ∙ packed_two n (omega (arith, h)) in
    record { fits = omega (arith, q, h) }

pub units_fit : (n d : ℕ) → d ≡ packed_digits n → n ≤ 9 → Fits w8 (48 + d)
units_fit n d e h =
    let q : d ≡ n = e ∙ packed_one n (omega (arith, h)) in
    record { fits = omega (arith, q, h) }

pub three_put : (b : List ℕ) (at n d : ℕ) → d ≡ packed_digits n
    → set (set (set b at (48 + d / 256)) (at + 1) (48 + d / 16 % 16)) (at + 2) (48 + d % 16) ≡ sets b at (three n)
unfolding three
three_put b at n d e =
    let hundreds : d / 256 ≡ n / 100 = ap (λ (x : ℕ). x / 256) e ∙ packed_hundreds n in
    let tens : d / 16 % 16 ≡ n / 10 % 10 = ap (λ (x : ℕ). x / 16 % 16) e ∙ packed_tens n in
    let units : d % 16 ≡ n % 10 = ap (λ (x : ℕ). x % 16) e ∙ packed_units n in
    let second : at + 1 ≡ suc at = omega arith in
    let third : at + 2 ≡ suc (suc at) = omega arith in
    rw (hundreds, tens, units, second, third) refl

pub front_three_put : (b last : List ℕ) (at n : ℕ) → last ≡ sets b at (three n) → 99 < n → n < 1000 → last ≡ sets b at (decimal n)
front_three_put b last at n e l h = e ∙ ap (λ (r : List ℕ). sets b at r) (sym (decimal_front n l h))

pub front_two_put : (b : List ℕ) (at n d : ℕ) → d ≡ packed_digits n → 9 < n → n ≤ 99
    → set (set b at (48 + d / 16)) (at + 1) (48 + d % 16) ≡ sets b at (decimal n)
front_two_put b at n d e l h =
    let tens : d / 16 ≡ n / 10 = ap (λ (x : ℕ). x / 16) e ∙ packed_two n (omega (arith, h)) in
    let units : d % 16 ≡ n % 10 = ap (λ (x : ℕ). x % 16) e ∙ packed_units n in
    let second : at + 1 ≡ suc at = omega arith in
    rw (decimal_two n l (omega (arith, h)), tens, units, second) refl

pub front_one_put : (b : List ℕ) (at n d : ℕ) → d ≡ packed_digits n → n ≤ 9 → set b at (48 + d) ≡ sets b at (decimal n)
front_one_put b at n d e h =
    let units : d ≡ n = e ∙ packed_one n (omega (arith, h)) in
    rw (decimal_one n (omega (arith, h)), units) refl

-- loops: what is still to be stored makes of the buffer what was to be made, `whole`

pub group_put : (b last whole : List ℕ) (at end rest : ℕ) → sets b at (decimal rest) ≡ whole → at + length (decimal rest) ≡ end → 999 < rest → rest < 2 ^ 64
    → last ≡ sets b (end - 3) (three (rest % 1000)) → sets last at (decimal (rest / 1000)) ≡ whole
group_put b last whole at end rest w e l h p =
    let front : List ℕ = decimal (rest / 1000) in
    let more : length (decimal rest) ≡ length front + 3 = decimal_next_length rest l h in
    let place : end - 3 ≡ at + length front = omega (arith, e, more) in
    let room : at + length front ≤ end - 3 = omega (arith, place) in
    ap (λ (r : List ℕ). sets r at front) p
    ∙ sets_swap b at (end - 3) front (three (rest % 1000)) room
    ∙ ap (λ (n : ℕ). sets (sets b at front) n (three (rest % 1000))) place
    ∙ sym (sets_append b at front (three (rest % 1000)))
    ∙ ap (λ (r : List ℕ). sets b at r) (sym (decimal_next rest l h))
    ∙ w

pub blanks_put : (b part : List ℕ) (at count : ℕ) → at + count ≤ length b → part ≡ replicate (length (take (at + count - at) (drop at b))) 32
    → put_mid at (at + count - at) b part ≡ sets b at (replicate count 32)
blanks_put b part at count h e =
    let all : length (take (at + count - at) (drop at b)) ≡ at + count - at = length-take-le (at + count - at) (drop at b) (omega (arith, length-drop at b)) in
    let k : at + count - at ≡ count = omega arith in
    ap (put_mid at (at + count - at) b) (e ∙ ap (λ (n : ℕ). replicate n 32) all)
    ∙ part_set b (replicate (at + count - at) 32) at (at + count - at) (length-replicate {A = ℕ} (at + count - at) 32) (omega (arith, h))
    ∙ ap (λ (n : ℕ). sets b at (replicate n 32)) k

pub column_put : (b blanks last : List ℕ) (at width count n : ℕ) → count ≡ length (decimal n) → blanks ≡ sets b at (replicate (width - count) 32)
    → last ≡ sets blanks (at + (width - count)) (decimal n) → last ≡ sets b at (column width n)
unfolding column
column_put b blanks last at width count n c e f =
    f
    ∙ ap (λ (r : List ℕ). sets r (at + (width - count)) (decimal n)) e
    ∙ ap (λ (k : ℕ). sets (sets b at (replicate (width - k) 32)) (at + (width - k)) (decimal n)) c
    ∙ ap (λ (k : ℕ). sets (sets b at (replicate (width - length (decimal n)) 32)) (at + k) (decimal n)) (sym (length-replicate (width - length (decimal n)) 32))
    ∙ sym (sets_append b at (replicate (width - length (decimal n)) 32) (decimal n))

-- the call: the digits at the front of a buffer of 20 bytes, `r` of them

pub decimal_whole : (old new : List ℕ) (r n : ℕ) → length old ≡ 20 → r ≡ length (decimal n) → new ≡ sets old 0 (decimal n) → new ≡ decimal n ++ drop r old
decimal_whole old new r n l c e =
    let room : 0 + length (decimal n) ≤ length old = omega (arith, l, decimal_length n) in
    let place : 0 + length (decimal n) ≡ r = omega (arith, c) in
    e ∙ sets-eq (decimal n) old 0 room ∙ ap (λ (k : ℕ). decimal n ++ drop k old) place

pub decimal_counts : (old new : List ℕ) (r n : ℕ) → length old ≡ 20 → r ≡ length (decimal n) → new ≡ sets old 0 (decimal n) → Counts r new
decimal_counts old new r n l c e =
    let long : length new ≡ length old = sets_same old new 0 (decimal n) e in
    let within : r ≤ length new = omega (arith, l, c, long, decimal_length n) in
    (within, sym (length-take-le r new within))
