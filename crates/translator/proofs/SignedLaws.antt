-- Numbers that may be -1 are read right.
use Prim.Native.Nat.{ℕ, suc, ◌+◌}
use mathlib.Core.Path.{◌≡◌, refl, sym, ap, ◌∙◌}
use mathlib.Core.Bool.{true, false}
use mathlib.Core.List.{List, ◌++◌}
use mathlib.Core.Option.{Option, none, some}
use mathlib.Core.Logic.{◌⊎◌, inl, inr, ⊎_elim}
use native.Mathlib.Omega.{arith}
use lib.Dec.{eqb}
use lib.ListN.{length, get_or, drop}
use borrow.Author.Tests.{ne_eqb}
use Rattle.files.specs.Outcome.{done, refusal}
use Rattle.files.proofs.Logic.{split}
use Rattle.digits.specs.Decimal.{ascii}
use Rattle.translator.specs.Fields.{signed, word_at, is_digit, is_minus, minus_one, numeral_length, numeral_at, numeral_value, signed_at, field_at, field_length, field_value}
use Rattle.translator.specs.Sas.{Separator, byte_of, ended, ended_option}
use Rattle.translator.proofs.Written.{written, writable, Unfinished, FieldRight}
use Rattle.translator.proofs.FrontLaws.{Agree, agree_first}
use Rattle.translator.proofs.WordLaws.{word_read, word_back, WordStops, word_form}
use Rattle.translator.proofs.NumberLaws.{numeral_within, number_ends, number_first, number_states, number_reads, number_back, number_long, number_form, number_agree, number_begins, separator_fails}
use Rattle.translator.proofs.UnfinishedLaws.{Reads, unfinished}

minus_agree : (k : ℕ) (r s : List ℕ) → Agree (suc k) s r → is_minus s ≡ is_minus r
unfolding is_minus
minus_agree k r s agree = ap (λ (b : ℕ). eqb b 45) (agree_first k s r agree)

signed_minus : (b : ℕ) (r : List ℕ) (at : ℕ) → is_minus r ≡ true → signed_at b r at ≡ word_at (minus_one b) r at
unfolding signed_at
signed_minus b r at e = rw e refl

signed_plus : (b : ℕ) (r : List ℕ) (at : ℕ) → is_minus r ≡ false → signed_at b r at ≡ numeral_at b r at
unfolding signed_at
signed_plus b r at e = rw e refl

-- -1 is written with a minus, no other number is
minus_written : (separator : Separator) (rest : List ℕ) → is_minus (ended_option separator none ++ rest) ≡ true
unfolding is_minus ended_option ascii
minus_written separator rest = refl

plus_written : (separator : Separator) (n : ℕ) (rest : List ℕ) → is_minus (ended_option separator (some n) ++ rest) ≡ false
unfolding is_minus ended_option ended
plus_written separator n rest =
    let first = number_first (byte_of separator) (separator_fails separator) n rest in
    ne_eqb (get_or (ended_option separator (some n) ++ rest) 0 0) 45 (λ e. omega (arith, e, first))

signed_reads : (separator : Separator) → Reads (signed separator)
unfolding field_at written ended_option ended minus_one
signed_reads separator none rest at e = signed_minus (byte_of separator) _ at (minus_written separator rest) ∙ word_read (minus_one (byte_of separator)) rest at
signed_reads separator (some n) rest at e = signed_plus (byte_of separator) _ at (plus_written separator n rest) ∙ number_reads (byte_of separator) (separator_fails separator) n rest at

pub signed_right : (separator : Separator) → FieldRight (signed separator)
unfolding field_at field_length field_value written writable ended_option ended minus_one ascii
signed_right separator =
    record {
      reads = signed_reads separator;
      ends = ends;
      states = states;
      fits = λ r at e. refl;
      back = back;
      long = long;
      form = form;
    }
  where
    b : ℕ
    b = byte_of separator

    fails : is_digit b ≡ false
    fails = separator_fails separator

    ends : (v : Option ℕ) (rest : List ℕ) → true ≡ true → field_length (signed separator) (ended_option separator v ++ rest) ≡ length (ended_option separator v)
    ends none rest e = rw (minus_written separator rest) refl
    ends (some n) rest e = rw (plus_written separator n rest) (number_ends b fails n rest)

    states : (v : Option ℕ) (rest : List ℕ) → true ≡ true → field_value (signed separator) (ended_option separator v ++ rest) ≡ v
    states none rest e = rw (minus_written separator rest) refl
    states (some n) rest e = rw (plus_written separator n rest) (ap some (number_states b fails n rest))

    back : (r : List ℕ) (at : ℕ) → signed_at b r at ≡ done → r ≡ ended_option separator (field_value (signed separator) r) ++ drop (field_length (signed separator) r) r
    back r at e =
        split (is_minus r)
        (λ m. rw m (word_back (minus_one b) r at (sym (signed_minus b r at m) ∙ e)))
        (λ m. rw m (number_back b fails r at (sym (signed_plus b r at m) ∙ e)))

    long : (r : List ℕ) (at : ℕ) → signed_at b r at ≡ done → field_length (signed separator) r ≡ length (ended_option separator (field_value (signed separator) r))
    long r at e =
        split (is_minus r)
        (λ m. rw m refl)
        (λ m. rw m (number_long b fails r at (sym (signed_plus b r at m) ∙ e)))

    at_minus : (r : List ℕ) (at : ℕ) → is_minus r ≡ true → (stops : WordStops (minus_one b) r at) → signed_at b r at ≡ refusal 31 (at + stops.count) → Unfinished (signed separator) r stops.count
    at_minus r at m stops place =
        unfinished (signed separator) r at stops.count (signed_reads separator) place stops.within none refl stops.long stops.begun
        (λ s agree. signed_minus b s at (minus_agree stops.count r s agree ∙ m) ∙ stops.agree s agree ∙ sym (signed_minus b r at m))

    at_plus : (r : List ℕ) (at : ℕ) → is_minus r ≡ false → signed_at b r at ≡ refusal 31 (at + numeral_length r) → Unfinished (signed separator) r (numeral_length r)
    at_plus r at m place =
        let begins = number_begins b fails r in
        unfinished (signed separator) r at (numeral_length r) (signed_reads separator) place (numeral_within r) (some (numeral_value r)) refl begins.0 begins.1
        (λ s agree. signed_plus b s at (minus_agree (numeral_length r) r s agree ∙ m) ∙ number_agree b fails r s at agree ∙ sym (signed_plus b r at m))

    form : (r : List ℕ) (at : ℕ) → (signed_at b r at ≡ done) ⊎ ((k : ℕ) × (signed_at b r at ≡ refusal 31 (at + k)) × Unfinished (signed separator) r k)
    form r at =
        split (is_minus r)
        (λ m.
        ⊎_elim
        (λ d. inl (signed_minus b r at m ∙ d))
        (λ stops. let place = signed_minus b r at m ∙ stops.place in inr (stops.count, place, at_minus r at m stops place))
        (word_form (minus_one b) r at))
        (λ m.
        ⊎_elim
        (λ d. inl (signed_plus b r at m ∙ d))
        (λ e. let place = signed_plus b r at m ∙ e in inr (numeral_length r, place, at_plus r at m place))
        (number_form b fails r at))
