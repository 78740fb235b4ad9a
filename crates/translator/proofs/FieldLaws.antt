-- Every field is read right: what is written is read, what is read was written, and 31 stands where no writing goes on.
use Prim.Native.Nat.{ℕ, ◌+◌}
use mathlib.Core.Path.{◌≡◌, refl}
use mathlib.Core.Bool.{false}
use mathlib.Core.List.{List}
use mathlib.Core.Logic.{inl, inr, ⊎_elim}
use native.Mathlib.Omega.{arith}
use lib.ListN.{take, drop}
use Rattle.files.specs.Outcome.{refusal}
use Rattle.translator.specs.Fields.{Field, word, name, flag, number, signed, is_digit, line_length, numeral_length, numeral_value, field_at, field_length, field_value}
use Rattle.translator.specs.Sas.{Separator, byte_of, ended}
use Rattle.translator.proofs.Written.{written, writable, Unfinished, FieldRight}
use Rattle.translator.proofs.WordLaws.{byte_form, word_read, word_back, WordStops, word_form}
use Rattle.translator.proofs.LineLaws.{line_within, line_name, line_length_lem, line_ends, line_states, line_reads, line_back, line_long, line_begins, line_agree}
use Rattle.translator.proofs.NumberLaws.{numeral_within, number_ends, number_states, number_reads, number_back, number_long, number_form, number_agree, number_begins, separator_fails}
use Rattle.translator.proofs.UnfinishedLaws.{unfinished}
use Rattle.translator.proofs.FlagLaws.{flag_right}
use Rattle.translator.proofs.SignedLaws.{signed_right}

word_right : (w : List ℕ) → FieldRight (word w)
unfolding field_at field_length field_value written writable
word_right w =
    record {
      reads = λ v rest at e. word_read w rest at;
      ends = λ v rest e. refl;
      states = λ v rest e. refl;
      fits = λ r at e. refl;
      back = λ r at e. word_back w r at e;
      long = λ r at e. refl;
      form = λ r at. ⊎_elim inl (λ stops. inr (stops.count, stops.place, at_stop r at stops)) (word_form w r at);
    }
  where
    at_stop : (r : List ℕ) (at : ℕ) (stops : WordStops w r at) → Unfinished (word w) r stops.count
    at_stop r at stops =
        unfinished (word w) r at stops.count (λ v rest at e. word_read w rest at) stops.place stops.within tt refl stops.long stops.begun stops.agree

name_right : FieldRight name
unfolding field_at field_length field_value written writable
name_right =
    record {
      reads = λ n rest at e. line_reads n rest at e;
      ends = λ n rest e. omega (arith, line_ends n rest e, line_length_lem n);
      states = λ n rest e. line_states n rest e;
      fits = λ r at e. line_name r;
      back = λ r at e. line_back r at e;
      long = λ r at e. line_long r;
      form = λ r at. ⊎_elim inl (λ place. inr (line_length r, place, at_stop r at place)) (byte_form 10 (drop (line_length r) r) (at + line_length r));
    }
  where
    at_stop : (r : List ℕ) (at : ℕ) → field_at name r at ≡ refusal 31 (at + line_length r) → Unfinished name r (line_length r)
    at_stop r at place =
        unfinished name r at (line_length r) line_reads place (line_within r) (take (line_length r) r) (line_name r) (omega (arith, line_long r)) (line_begins r) (λ s. line_agree r s at)

number_right : (separator : Separator) → FieldRight (number separator)
unfolding field_at field_length field_value written writable ended
number_right separator =
    record {
      reads = λ n rest at e. number_reads b fails n rest at;
      ends = λ n rest e. number_ends b fails n rest;
      states = λ n rest e. number_states b fails n rest;
      fits = λ r at e. refl;
      back = λ r at e. number_back b fails r at e;
      long = λ r at e. number_long b fails r at e;
      form = λ r at. ⊎_elim inl (λ place. inr (numeral_length r, place, at_stop r at place)) (number_form b fails r at);
    }
  where
    b : ℕ
    b = byte_of separator

    fails : is_digit b ≡ false
    fails = separator_fails separator

    at_stop : (r : List ℕ) (at : ℕ) → field_at (number separator) r at ≡ refusal 31 (at + numeral_length r) → Unfinished (number separator) r (numeral_length r)
    at_stop r at place =
        let begins = number_begins b fails r in
        unfinished (number separator) r at (numeral_length r) (λ n rest at e. number_reads b fails n rest at) place (numeral_within r) (numeral_value r) refl begins.0 begins.1 (λ s. number_agree b fails r s at)

pub field_right : (f : Field) → FieldRight f
field_right (word w) = word_right w
field_right name = name_right
field_right flag = flag_right
field_right (number separator) = number_right separator
field_right (signed separator) = signed_right separator
