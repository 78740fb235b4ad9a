-- Laws of numbers in a text: the numeral at its front, and how a number with its separator is read.
use Prim.Native.Nat.{ℕ, suc, ◌+◌, ◌≤◌}
use mathlib.Core.Path.{◌≡◌, refl, sym, ap, subst, ◌∙◌}
use mathlib.Core.Bool.{true, false, cond}
use mathlib.Core.List.{List, [], ◌∷◌, ◌++◌, append_assoc}
use mathlib.Core.Logic.{◌⊎◌, inl, inr, ⊎_elim}
use native.Mathlib.Omega.{arith}
use lib.Dec.{eqb, leb}
use lib.ListN.{length, get_or, take, drop, length-append, take-append-drop, get_or-append}
use lib.Seq.{length-take-le, take-append_seam, drop-append_seam, drop-drop, get_or-take}
use borrow.Author.Tests.{eqb-true, eqb-false, le-leb, leb-true, leb-false}
use Rattle.files.specs.Below.{all_of}
use Rattle.files.specs.Outcome.{done, refusal, guard}
use Rattle.files.proofs.Logic.{split, split_le, and_join}
use Rattle.digits.specs.Decimal.{number_of}
use Rattle.translator.specs.Fields.{byte_at, is_digit, digits_length, numeral_length, numeral_at, numeral_value}
use Rattle.translator.specs.Sas.{numeral, Separator, blank, line_feed, byte_of}
use Rattle.translator.proofs.FrontLaws.{Agree, agree_first, agree_past, passing, passing_whole, passing_within, passing_pass, passing_agree}
use Rattle.translator.proofs.WordLaws.{guard_goes, guard_stops, guard_done, byte_read, byte_back, byte_form, byte_agree}
use Rattle.translator.proofs.NumeralLaws.{Plain, plain_first, between_digit, numeral_reads, numeral_plain, numeral_only}

pub separator_fails : (separator : Separator) → is_digit (byte_of separator) ≡ false
unfolding is_digit
separator_fails blank = refl
separator_fails line_feed = refl

digits_passing : (r : List ℕ) → digits_length r ≡ passing is_digit r
unfolding digits_length
digits_passing [] = refl
digits_passing (b ∷ r) =
    let rest : digits_length r + 1 ≡ suc (passing is_digit r) = omega (arith, digits_passing r) in
    ap (λ (n : ℕ). cond (is_digit b) n 0) rest

-- a numeral is 0, or as many digits as there are
numeral_cases {ℓ} : {X : Type ℓ} (r : List ℕ) → (get_or r 0 0 ≡ 48 → numeral_length r ≡ 1 → X) → ((get_or r 0 0 ≡ 48 → ⊥) → numeral_length r ≡ passing is_digit r → X) → X
unfolding numeral_length
numeral_cases r zeros others =
    split (eqb (get_or r 0 0) 48)
    (λ e. zeros (eqb-true (get_or r 0 0) 48 e) (rw e refl))
    (λ e. others (eqb-false (get_or r 0 0) 48 e) (rw e (digits_passing r)))

pub numeral_within : (r : List ℕ) → numeral_length r ≤ length r
numeral_within r =
    numeral_cases r
    (λ first e. some r first e)
    (λ first e. omega (arith, e, passing_within is_digit r))
  where
    some : (r : List ℕ) → get_or r 0 0 ≡ 48 → numeral_length r ≡ 1 → numeral_length r ≤ length r
    some [] first e = absurd (omega (arith, first))
    some (b ∷ r) first e = omega (arith, e)

numeral_front : (r : List ℕ) → 1 ≤ numeral_length r → Plain (take (numeral_length r) r)
numeral_front r h =
    numeral_cases r
    (λ first e. subst (λ (k : ℕ). Plain (take k r)) (sym e) (alone r first))
    (λ first e.
    record {
      digits = subst (λ (k : ℕ). all_of is_digit (take k r) ≡ true) (sym e) (passing_pass is_digit r);
      some = omega (arith, h, length-take-le (numeral_length r) r (numeral_within r));
      leading = λ q. absurd (first (sym (get_or-take (numeral_length r) r 0 0 h) ∙ q));
    })
  where
    alone : (r : List ℕ) → get_or r 0 0 ≡ 48 → Plain (take 1 r)
    alone [] first = absurd (omega (arith, first))
    alone (b ∷ r) first = subst (λ (d : ℕ). Plain (d ∷ [])) (sym first) (record { digits = and_join (between_digit 48 (omega arith) (omega arith)) refl; some = omega arith; leading = λ q. refl })

-- the numeral ends where no digit follows
numeral_whole : (ds : List ℕ) (b : ℕ) (rest : List ℕ) → Plain ds → is_digit b ≡ false → numeral_length (ds ++ b ∷ rest) ≡ length ds
numeral_whole ds b rest plain fails =
    numeral_cases (ds ++ b ∷ rest)
    (λ first e. e ∙ sym (plain.leading (sym (get_or-append ds (b ∷ rest) 0 0 plain.some) ∙ first)))
    (λ first e. e ∙ passing_whole is_digit ds b rest plain.digits fails)

numeral_agree : (r s : List ℕ) → Agree (suc (numeral_length r)) s r → numeral_length s ≡ numeral_length r
numeral_agree r s agree =
    let same : get_or s 0 0 ≡ get_or r 0 0 = agree_first (numeral_length r) s r agree in
    numeral_cases r
    (λ first e. numeral_cases s (λ f q. q ∙ sym e) (λ f q. absurd (f (same ∙ first))))
    (λ first e.
    numeral_cases s
    (λ f q. absurd (first (sym same ∙ f)))
    (λ f q. q ∙ passing_agree is_digit r s (subst (λ (k : ℕ). Agree (suc k) s r) e agree) ∙ sym e))

-- the digits at the front of a text are those of the number that they state
number_front : (r : List ℕ) → 1 ≤ numeral_length r → numeral (numeral_value r) ≡ take (numeral_length r) r
unfolding numeral_value
number_front r h = numeral_only (take (numeral_length r) r) (numeral_front r h)

number_length : (r : List ℕ) → 1 ≤ numeral_length r → length (numeral (numeral_value r)) ≡ numeral_length r
number_length r h = ap length (number_front r h) ∙ length-take-le (numeral_length r) r (numeral_within r)

-- a number with the byte that ends it, which is no digit
module _ (b : ℕ) (fails : is_digit b ≡ false) where
  abbrev ends : ℕ → List ℕ
  ends n = numeral n ++ (b ∷ [])

  ends_append : (n : ℕ) (rest : List ℕ) → ends n ++ rest ≡ numeral n ++ (b ∷ rest)
  ends_append n rest = append_assoc (numeral n) (b ∷ []) rest

  number_count : (n : ℕ) (rest : List ℕ) → numeral_length (ends n ++ rest) ≡ length (numeral n)
  number_count n rest = ap numeral_length (ends_append n rest) ∙ numeral_whole (numeral n) b rest (numeral_plain n) fails

  pub number_ends : (n : ℕ) (rest : List ℕ) → numeral_length (ends n ++ rest) + 1 ≡ length (ends n)
  number_ends n rest = omega (arith, number_count n rest, length-append (numeral n) (b ∷ []))

  -- a number begins with a digit
  pub number_first : (n : ℕ) (rest : List ℕ) → 48 ≤ get_or (ends n ++ rest) 0 0
  number_first n rest =
      let plain = numeral_plain n in
      let first : get_or (ends n ++ rest) 0 0 ≡ get_or (numeral n) 0 0 = ap (λ (r : List ℕ). get_or r 0 0) (ends_append n rest) ∙ get_or-append (numeral n) (b ∷ rest) 0 0 plain.some in
      omega (arith, first, plain_first (numeral n) plain)

  pub number_states : (n : ℕ) (rest : List ℕ) → numeral_value (ends n ++ rest) ≡ n
  unfolding numeral_value
  number_states n rest =
      ap number_of (ap (λ (k : ℕ). take k (ends n ++ rest)) (number_count n rest) ∙ ap (take (length (numeral n))) (ends_append n rest) ∙ take-append_seam (numeral n) (b ∷ rest))
      ∙ numeral_reads n

  pub number_reads : (n : ℕ) (rest : List ℕ) (at : ℕ) → numeral_at b (ends n ++ rest) at ≡ done
  unfolding numeral_at
  number_reads n rest at =
      let count = number_count n rest in
      let past : drop (numeral_length (ends n ++ rest)) (ends n ++ rest) ≡ b ∷ rest =
      ap (λ (k : ℕ). drop k (ends n ++ rest)) count ∙ ap (drop (length (numeral n))) (ends_append n rest) ∙ drop-append_seam (numeral n) (b ∷ rest) in
      guard_goes _ _ _ (le-leb 1 (numeral_length (ends n ++ rest)) (omega (arith, count, (numeral_plain n).some)))
      ∙ ap (λ (r : List ℕ). byte_at b r (at + numeral_length (ends n ++ rest))) past
      ∙ byte_read b rest (at + numeral_length (ends n ++ rest))

  number_done : (r : List ℕ) (at : ℕ) → numeral_at b r at ≡ done → (1 ≤ numeral_length r) × (drop (numeral_length r) r ≡ b ∷ drop (numeral_length r + 1) r)
  unfolding numeral_at
  number_done r at e =
      let both = guard_done (leb 1 (numeral_length r)) at (byte_at b (drop (numeral_length r) r) (at + numeral_length r)) e in
      (leb-true 1 (numeral_length r) both.0, byte_back b (drop (numeral_length r) r) (at + numeral_length r) both.1 ∙ ap (λ (x : List ℕ). b ∷ x) (drop-drop 1 (numeral_length r) r))

  pub number_back : (r : List ℕ) (at : ℕ) → numeral_at b r at ≡ done → r ≡ ends (numeral_value r) ++ drop (numeral_length r + 1) r
  number_back r at e =
      let found = number_done r at e in
      let front = number_front r found.0 in
      let past = found.1 in
      sym (take-append-drop (numeral_length r) r) ∙ (λ i. sym front i ++ past i) ∙ sym (ends_append (numeral_value r) (drop (numeral_length r + 1) r))

  pub number_long : (r : List ℕ) (at : ℕ) → numeral_at b r at ≡ done → numeral_length r + 1 ≡ length (ends (numeral_value r))
  number_long r at e = omega (arith, number_length r (number_done r at e).0, length-append (numeral (numeral_value r)) (b ∷ []))

  pub number_form : (r : List ℕ) (at : ℕ) → (numeral_at b r at ≡ done) ⊎ (numeral_at b r at ≡ refusal 31 (at + numeral_length r))
  unfolding numeral_at
  number_form r at =
      split (leb 1 (numeral_length r))
      (λ e. ⊎_elim (λ d. inl (guard_goes _ _ _ e ∙ d)) (λ d. inr (guard_goes _ _ _ e ∙ d)) (byte_form b (drop (numeral_length r) r) (at + numeral_length r)))
      (λ e. inr (guard_stops _ _ _ e ∙ ap (refusal 31) (omega (arith, leb-false 1 (numeral_length r) e))))

  pub number_agree : (r s : List ℕ) (at : ℕ) → Agree (suc (numeral_length r)) s r → numeral_at b s at ≡ numeral_at b r at
  unfolding numeral_at
  number_agree r s at agree =
      let same = numeral_agree r s agree in
      ap (λ (k : ℕ). guard (leb 1 k) 31 at (byte_at b (drop k s) (at + k))) same
      ∙ ap (guard (leb 1 (numeral_length r)) 31 at) (byte_agree b (drop (numeral_length r) r) (drop (numeral_length r) s) (at + numeral_length r) (agree_past (numeral_length r) s r agree))

  -- the digits that are there begin a number
  pub number_begins : (r : List ℕ) → (numeral_length r ≤ length (ends (numeral_value r))) × Agree (numeral_length r) (ends (numeral_value r)) r
  number_begins r =
      split_le 1 (numeral_length r)
      (λ h.
      let count = number_length r h in (
        omega (arith, count, length-append (numeral (numeral_value r)) (b ∷ [])),
        ap (λ (k : ℕ). take k (ends (numeral_value r))) (sym count) ∙ take-append_seam (numeral (numeral_value r)) (b ∷ []) ∙ number_front r h,
      ))
      (λ h.
      let none : 0 ≡ numeral_length r = omega (arith, h) in
      (omega (arith, h), subst (λ (k : ℕ). Agree k (ends (numeral_value r)) r) none refl))
