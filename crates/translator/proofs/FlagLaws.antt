-- The metric's digit is read right.
use Prim.Native.Nat.{ℕ, suc, ◌+◌}
use mathlib.Core.Path.{◌≡◌, refl, sym, ap, ap₂, subst, ◌∙◌}
use mathlib.Core.Bool.{Bool, true, false, ◌||◌}
use mathlib.Core.List.{List, [], ◌∷◌, ◌++◌, nil≢cons}
use mathlib.Core.Logic.{◌⊎◌, inl, inr, ⊎_elim}
use native.Mathlib.Omega.{arith}
use native.Mathlib.Nat.{add-zero}
use lib.Dec.{eqb}
use lib.ListN.{length, take, drop}
use borrow.Author.Tests.{eqb-true}
use Rattle.files.specs.Outcome.{Outcome, done, refusal, guard}
use Rattle.files.proofs.Logic.{split, or_split, clash}
use Rattle.digits.specs.Decimal.{ascii}
use Rattle.translator.specs.Fields.{flag, byte_at, is_flag, field_at, field_length, field_value}
use Rattle.translator.specs.Sas.{printed_metric}
use Rattle.translator.proofs.Written.{written, writable, Unfinished, FieldRight}
use Rattle.translator.proofs.FrontLaws.{Agree, agree_first, agree_past}
use Rattle.translator.proofs.WordLaws.{guard_goes, guard_stops, guard_done, byte_back, byte_form, byte_agree}
use Rattle.translator.proofs.UnfinishedLaws.{Reads, unfinished}

-- the metric's byte, then a line feed
flag_written : (b : ℕ) (r : List ℕ) → is_flag (b ∷ r) ≡ true → printed_metric (eqb b 49) ≡ b ∷ 10 ∷ []
unfolding is_flag printed_metric ascii
flag_written b r e =
    ⊎_elim
    (λ f. subst (λ (x : ℕ). printed_metric (eqb x 49) ≡ x ∷ 10 ∷ []) (sym (eqb-true b 48 f)) refl)
    (λ f. subst (λ (x : ℕ). printed_metric (eqb x 49) ≡ x ∷ 10 ∷ []) (sym (eqb-true b 49 f)) refl)
    (or_split (eqb b 48) (eqb b 49) e)

metric_length : (metric : Bool) → length (printed_metric metric) ≡ 2
unfolding printed_metric ascii
metric_length true = refl
metric_length false = refl

flag_reads : Reads flag
unfolding field_at written is_flag byte_at printed_metric ascii guard
flag_reads true rest at e = refl
flag_reads false rest at e = refl

flag_states : (metric : Bool) (rest : List ℕ) → field_value flag (printed_metric metric ++ rest) ≡ metric
unfolding field_value printed_metric ascii
flag_states true rest = refl
flag_states false rest = refl

flag_back : (r : List ℕ) (at : ℕ) → field_at flag r at ≡ done → r ≡ printed_metric (field_value flag r) ++ drop 2 r
unfolding field_at field_value
flag_back [] at e = absurd (nil≢cons (byte_back 10 [] (at + 1) (guard_done _ _ _ e).1))
flag_back (b ∷ r) at e =
    let both = guard_done (is_flag (b ∷ r)) at (byte_at 10 r (at + 1)) e in
    ap (λ (x : List ℕ). b ∷ x) (byte_back 10 r (at + 1) both.1) ∙ ap (λ (x : List ℕ). x ++ drop 1 r) (sym (flag_written b r both.0))

flag_agree : (k : ℕ) (r s : List ℕ) → Agree (suc k) s r → is_flag s ≡ is_flag r
unfolding is_flag
flag_agree k r s agree = ap (λ (b : ℕ). eqb b 48 || eqb b 49) (agree_first k s r agree)

no_flag : is_flag [] ≡ true → ⊥
unfolding is_flag
no_flag e = clash e refl

pub flag_right : FieldRight flag
unfolding field_at field_length field_value written writable
flag_right =
    record {
      reads = flag_reads;
      ends = λ metric rest e. sym (metric_length metric);
      states = λ metric rest e. flag_states metric rest;
      fits = λ r at e. refl;
      back = flag_back;
      long = λ r at e. sym (metric_length (field_value flag r));
      form = form;
    }
  where
    -- the first byte is wrong
    at_first : (r : List ℕ) (at : ℕ) → is_flag r ≡ false → (field_at flag r at ≡ refusal 31 (at + 0)) × Unfinished flag r 0
    at_first r at f =
        let place : field_at flag r at ≡ refusal 31 (at + 0) = guard_stops _ _ _ f ∙ ap (refusal 31) (sym (add-zero at)) in (
          place,
          unfinished flag r at 0 flag_reads place (omega arith) true refl (omega arith) refl
              (λ s agree. guard_stops _ _ _ (flag_agree 0 r s agree ∙ f) ∙ sym (guard_stops _ _ _ f)),
        )

    -- the line feed is missing
    at_second : (r : List ℕ) (at : ℕ) → is_flag r ≡ true → byte_at 10 (drop 1 r) (at + 1) ≡ refusal 31 (at + 1) → (field_at flag r at ≡ refusal 31 (at + 1)) × Unfinished flag r 1
    at_second [] at t e = absurd (no_flag t)
    at_second (b ∷ r) at t e =
        let place : field_at flag (b ∷ r) at ≡ refusal 31 (at + 1) = guard_goes _ _ _ t ∙ e in (
          place,
          unfinished flag (b ∷ r) at 1 flag_reads place (omega arith) (eqb b 49) refl (omega (arith, metric_length (eqb b 49))) (ap (take 1) (flag_written b r t))
              (λ s agree. ap₂ (λ (x : Bool) (o : Outcome). guard x 31 at o) (flag_agree 1 (b ∷ r) s agree) (byte_agree 10 r (drop 1 s) (at + 1) (agree_past 1 s (b ∷ r) agree))),
        )

    form : (r : List ℕ) (at : ℕ) → (field_at flag r at ≡ done) ⊎ ((k : ℕ) × (field_at flag r at ≡ refusal 31 (at + k)) × Unfinished flag r k)
    form r at =
        split (is_flag r)
        (λ t.
        ⊎_elim
        (λ d. inl (guard_goes _ _ _ t ∙ d))
        (λ e. let stop = at_second r at t e in inr (1, stop.0, stop.1))
        (byte_form 10 (drop 1 r) (at + 1)))
        (λ f. let stop = at_first r at f in inr (0, stop.0, stop.1))
