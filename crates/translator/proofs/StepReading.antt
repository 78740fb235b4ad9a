-- A number and the tests on it, from the code's own tests: the cursor is the one behind the field and its faults.
use Prim.Native.Nat.{ℕ, ◌≤◌, ◌<◌}
use mathlib.Core.Path.{◌≡◌, refl, sym, ap, ◌∙◌}
use mathlib.Core.Bool.{Bool, true, false, cond, ◌&&◌}
use mathlib.Core.List.{List}
use mathlib.Core.Option.{Option, none, some}
use native.Mathlib.Omega.{arith}
use lib.Dec.{eqb, leb, ltb}
use lib.ListN.{drop}
use borrow.Author.Tests.{le-leb, lt-leb, le-ltb, ne_eqb}
use Rattle.files.proofs.Logic.{clash, split, split_le}
use Rattle.files.specs.Outcome.{refusal}
use Rattle.translator.specs.Cursors.{Cursor}
use Rattle.translator.specs.Cursors.{ReadNumber}
use Rattle.translator.specs.Clauses.{capped, coded, with_number, number_after, signed_after, judged, number_by}
use Rattle.translator.specs.Fields.{Field, Value, number, signed, field_value}
use Rattle.translator.specs.Format.{Fault, fault_number, unless, gives, field, is_open, cursor_refused, field_after, fault_after, step_after, cursor_after, value_after}
use Rattle.translator.specs.Sas.{Separator}
use Rattle.translator.specs.Stated.{is_none}
use Rattle.translator.proofs.NumberReading.{capped_small, capped_large, capped_most}
use Rattle.translator.proofs.ReadingLaws.{fault_refused}
use Rattle.translator.proofs.ReadingSteps.{fault_closed}

-- tests that capping does not change
module _ (n k : ℕ) where
  pub leb_capped : k < 1048576 → leb (capped n) k ≡ leb n k
  leb_capped h =
      split_le n 1048576
      (λ l. ap (λ (x : ℕ). leb x k) (sym (capped_small n l)))
      (λ l. let c = capped_large n l in lt-leb (capped n) k (omega arith) ∙ sym (lt-leb n k (omega arith)))

  pub ltb_capped : k ≤ 1048576 → ltb (capped n) k ≡ ltb n k
  ltb_capped h =
      split_le n 1048576
      (λ l. ap (λ (x : ℕ). ltb x k) (sym (capped_small n l)))
      (λ l. let c = capped_large n l in le-ltb (capped n) k (omega arith) ∙ sym (le-ltb n k (omega arith)))

  pub least_capped : k ≤ 1048576 → leb k (capped n) ≡ leb k n
  least_capped h =
      split_le n 1048576
      (λ l. ap (leb k) (sym (capped_small n l)))
      (λ l. let c = capped_large n l in le-leb k (capped n) (omega arith) ∙ sym (le-leb k n (omega arith)))

  pub eqb_capped : k < 1048576 → eqb (capped n) k ≡ eqb n k
  eqb_capped h =
      split_le n 1048576
      (λ l. ap (λ (x : ℕ). eqb x k) (sym (capped_small n l)))
      (λ l. let c = capped_large n l in ne_eqb (capped n) k (λ e. omega arith) ∙ sym (ne_eqb n k (λ e. omega arith)))

-- behind a fault nothing is open
fault_after_closed : (f : Fault) (place : ℕ) (c : Cursor) → is_open (fault_after (some f) place c) ≡ false
unfolding fault_after
fault_after_closed f place c = split (is_open c) (λ e. rw e (fault_closed f place)) (λ e. rw e e)

pub fault_judged : (c : Cursor) (b t : Bool) (f : Fault) (place : ℕ) → (is_open c ≡ true → b ≡ t) → judged c b (fault_number f) place ≡ fault_after (unless t f none) place c
unfolding judged fault_after
fault_judged c b t f place h =
    split (is_open c)
    (λ e. rw (e, h e) (opened t e))
    (λ e. rw e (sym (fault_refused (unless t f none) place c e)))
  where
    opened : (t : Bool) → is_open c ≡ true → cond t c (cursor_refused (refusal (fault_number f) place)) ≡ fault_after (unless t f none) place c
    opened true e = refl
    opened false e = rw e refl

-- one test behind another
pub fault_then : (t : Bool) (f : Fault) (others : Option Fault) (place : ℕ) (c : Cursor) → fault_after others place (fault_after (unless t f none) place c) ≡ fault_after (unless t f others) place c
unfolding fault_after
fault_then true f others place c = refl
fault_then false f others place c = fault_refused others place (fault_after (some f) place c) (fault_after_closed f place c)

pub fault_both : (a b : Bool) (f : Fault) (place : ℕ) (c : Cursor) → fault_after (unless b f none) place (fault_after (unless a f none) place c) ≡ fault_after (unless (a && b) f none) place c
fault_both a b f place c = fault_then a f (unless b f none) place c ∙ ap (λ (o : Option Fault). fault_after o place c) (joined a)
  where
    joined : (a : Bool) → unless a f (unless b f none) ≡ unless (a && b) f none
    joined true = refl
    joined false = refl

pub fault_before : (o : Option Fault) (place : ℕ) (c : Cursor) → is_open (fault_after o place c) ≡ true → is_open c ≡ true
fault_before o place c e = split (is_open c) (λ p. p) (λ p. clash e (ap is_open (fault_refused o place c p) ∙ p))

-- a step that is open has no fault
module _ (f : Field) (fault : Value f → Option Fault) (s : List ℕ) (c : Cursor) (passed : is_open (step_after f fault s c) ≡ true) where
  step_cases : (o : Option Fault) → is_open (fault_after o c.at (field_after f s c)) ≡ true → (o ≡ none) × (is_open (field_after f s c) ≡ true)
  unfolding fault_after
  step_cases none e = (refl, e)
  step_cases (some x) e = clash e (fault_after_closed x c.at (field_after f s c))

  pub step_fine : fault (field_value f (drop c.at s)) ≡ none
  unfolding step_after
  step_fine = (step_cases (fault (field_value f (drop c.at s))) passed).0

  pub step_field : is_open (field_after f s c) ≡ true
  unfolding step_after
  step_field = (step_cases (fault (field_value f (drop c.at s))) passed).1

-- a test passes where nothing else is wrong
pub unless_none : (t : Bool) (f : Fault) (others : Option Fault) → unless t f others ≡ none → (t ≡ true) × (others ≡ none)
unless_none true f others e = (refl, e)
unless_none false f others e = absurd (some_none f e)
  where
    some_none : (f : Fault) → some f ≡ none → ⊥
    some_none f e = let z : ◌≡◌ {A = ℕ} 1 0 = ap number e in omega arith
      where
        number : Option Fault → ℕ
        number none = 0
        number (some f) = 1

-- a number that is settled
module _ (c : Cursor) (n : ℕ) (r : ReadNumber) (is : r ≡ with_number c n) where
  pub with_number_cursor : r.cursor ≡ c
  unfolding with_number
  with_number_cursor = ap (λ (x : ReadNumber). x.cursor) is

  pub with_number_value : is_open c ≡ true → r.value ≡ n
  unfolding with_number
  with_number_value o = ap (λ (x : ReadNumber). x.value) is ∙ rw o refl

pub with_number_is : (c : Cursor) (n : ℕ) (r : ReadNumber) → r ≡ with_number c n → is_open c ≡ true → r ≡ record { cursor = c; value = n }
unfolding with_number
with_number_is c n r e o = e ∙ rw o refl

pub with_number_same : (c : Cursor) (a b : ℕ) → (is_open c ≡ true → a ≡ b) → with_number c a ≡ with_number c b
unfolding with_number
with_number_same c a b h = split (is_open c) (λ e. rw (e, h e) refl) (λ e. rw e refl)

module _ (f : Field) (s : List ℕ) (c : Cursor) (n : ReadNumber) (v : ℕ) (is : n ≡ with_number (field_after f s c) v) where
  pub read_value : is_open (field_after f s c) ≡ true → n.value ≡ v
  read_value = with_number_value (field_after f s c) v n is

  pub read_tested : (x : Fault) (t : Value f → Bool) (b : Bool) (j : Cursor) → (is_open (field_after f s c) ≡ true → b ≡ t (field_value f (drop c.at s)))
      → j ≡ judged n.cursor b (fault_number x) c.at → j ≡ step_after f (λ u. unless (t u) x none) s c
  unfolding step_after
  read_tested x t b j h e =
      e
      ∙ ap (λ (d : Cursor). judged d b (fault_number x) c.at) (with_number_cursor (field_after f s c) v n is)
      ∙ fault_judged (field_after f s c) b (t (field_value f (drop c.at s))) x c.at h

  pub read_tested_twice : (x y : Fault) (t u : Value f → Bool) (b d : Bool) (j k : Cursor)
      → (is_open (field_after f s c) ≡ true → b ≡ t (field_value f (drop c.at s)))
      → (is_open (field_after f s c) ≡ true → d ≡ u (field_value f (drop c.at s)))
      → j ≡ judged n.cursor b (fault_number x) c.at → k ≡ judged j d (fault_number y) c.at
      → k ≡ step_after f (λ w. unless (t w) x (unless (u w) y none)) s c
  unfolding step_after
  read_tested_twice x y t u b d j k h g e q =
      let v : Value f = field_value f (drop c.at s) in
      let first : j ≡ step_after f (λ w. unless (t w) x none) s c = read_tested x t b j h e in
      q
      ∙ ap (λ (z : Cursor). judged z d (fault_number y) c.at) first
      ∙ fault_judged (step_after f (λ w. unless (t w) x none) s c) d (u v) y c.at
      (λ o. g (step_field f (λ w. unless (t w) x none) s c o))
      ∙ fault_then (t v) x (unless (u v) y none) c.at (field_after f s c)

-- numbers and signed numbers as they are read
pub number_is : (separator : Separator) (s : List ℕ) (c : Cursor) (n : ReadNumber) → n ≡ number_after separator s c
    → n ≡ with_number (field_after (number separator) s c) (capped (field_value (number separator) (drop c.at s)))
unfolding number_after
number_is separator s c n e = e

pub signed_is : (separator : Separator) (s : List ℕ) (c : Cursor) (n : ReadNumber) → n ≡ signed_after separator s c
    → n ≡ with_number (field_after (signed separator) s c) (coded (field_value (signed separator) (drop c.at s)))
unfolding signed_after
signed_is separator s c n e = e

pub none_coded : (o : Option ℕ) → eqb (coded o) 1048577 ≡ is_none o
none_coded none = refl
none_coded (some n) = ne_eqb (capped n) 1048577 (λ e. omega (arith, capped_most n))

-- a field whose value no fault refuses, and the number that stands for the value
module _ (f : Field) (s : List ℕ) (c : Cursor) (n : ReadNumber) (code : Value f → ℕ) (is : n ≡ with_number (field_after f s c) (code (field_value f (drop c.at s)))) where
  pub read_fine : (fault : Value f → Option Fault) (g : Value f → ℕ) (j : Cursor) (r : ReadNumber)
      → (fault (field_value f (drop c.at s)) ≡ none → code (field_value f (drop c.at s)) ≡ g (field_value f (drop c.at s)))
      → j ≡ step_after f fault s c → r ≡ with_number j n.value → r ≡ number_by (field f fault gives) g s c
  unfolding number_by cursor_after value_after
  read_fine fault g j r k e q =
      let u : Value f = field_value f (drop c.at s) in
      q
      ∙ ap (λ (y : Cursor). with_number y n.value) e
      ∙ with_number_same (step_after f fault s c) n.value (g u) (λ o. read_value f s c n (code u) is (step_field f fault s c o) ∙ k (step_fine f fault s c o))

  -- by a test on it
  pub read_with_number : (x : Fault) (t : Value f → Bool) (g : Value f → ℕ) (b : Bool) (j : Cursor) (r : ReadNumber)
      → (is_open (field_after f s c) ≡ true → b ≡ t (field_value f (drop c.at s)))
      → (t (field_value f (drop c.at s)) ≡ true → code (field_value f (drop c.at s)) ≡ g (field_value f (drop c.at s)))
      → j ≡ judged n.cursor b (fault_number x) c.at → r ≡ with_number j n.value → r ≡ number_by (field f (λ u. unless (t u) x none) gives) g s c
  read_with_number x t g b j r h k e q =
      let u : Value f = field_value f (drop c.at s) in
      read_fine (λ u. unless (t u) x none) g j r (λ o. k (unless_none (t u) x none o).0) (read_tested f s c n (code u) is x t b j h e) q
