-- Mutex groups, from the code's own steps: a format that takes a byte at least is read no more often than the text has bytes.
use Prim.Native.Nat.{ℕ, zero, suc, ◌+◌, ◌≤◌, ◌<◌}
use mathlib.Core.Path.{◌≡◌, refl, sym, ap, ◌∙◌}
use mathlib.Core.Bool.{true}
use mathlib.Core.List.{List}
use mathlib.Core.Option.{Option}
use native.Mathlib.Omega.{arith}
use lib.ListN.{length, drop}
use Rattle.files.proofs.Guards.{done_number}
use Rattle.files.proofs.Logic.{clash, split, split_le}
use Rattle.files.specs.Outcome.{Outcome, is_done}
use Rattle.digits.specs.Decimal.{ascii}
use Rattle.translator.specs.Cursors.{Cursor}
use Rattle.translator.specs.Cursors.{ReadNumber}
use Rattle.translator.specs.Clauses.{Inside, capped, number_after}
use Rattle.translator.specs.VariableContracts.{groups_after}
use Rattle.translator.specs.Fields.{Field, Value, word, number, field_length, field_value}
use Rattle.translator.specs.Format.{Fault, Format, gives, field, is_open, cursor_by, field_after, fault_after, step_after, cursor_after}
use Rattle.translator.specs.Sas.{Separator, blank, line_feed}
use Rattle.translator.specs.Text.{says, each, free_pair, group}
use Rattle.translator.proofs.CursorLaws.{field_cursor_by}
use Rattle.translator.proofs.FieldLaws.{field_right}
use Rattle.translator.proofs.NumberReading.{capped_small, capped_large}
use Rattle.translator.proofs.ReadingLaws.{after_refused, after_bind, open_before}
use Rattle.translator.proofs.ReadingListed.{after_within}
use Rattle.translator.proofs.StepReading.{with_number_cursor, step_fine, step_field, number_is}
use Rattle.translator.proofs.InsideReading.{field_inside, field_before, after_with_number}
use Rattle.translator.proofs.RepeatReading.{each_more}

-- where a field ends that is read
cursor_by_at : (o : Outcome) (end : ℕ) → is_open (cursor_by o end) ≡ true → (cursor_by o end).at ≡ end
unfolding cursor_by is_open
cursor_by_at o end e = split (is_done o) (λ d. rw d refl) (λ d. clash e (rw d d))

field_at : (f : Field) (s : List ℕ) (c : Cursor) → is_open (field_after f s c) ≡ true → (field_after f s c).at ≡ c.at + field_length f (drop c.at s)
unfolding is_open
field_at f s c e =
    let is = field_cursor_by f s c (done_number c.outcome (field_before f s c e)) in
    sym (ap (λ (x : Cursor). x.at) is) ∙ cursor_by_at _ _ (ap is_open is ∙ e)

step_at : (f : Field) (fault : Value f → Option Fault) (s : List ℕ) (c : Cursor) → is_open (step_after f fault s c) ≡ true
    → (step_after f fault s c).at ≡ c.at + field_length f (drop c.at s)
unfolding step_after fault_after
step_at f fault s c e =
    ap (λ (o : Option Fault). (fault_after o c.at (field_after f s c)).at) (step_fine f fault s c e)
    ∙ field_at f s c (step_field f fault s c e)

-- what is read does not go back
after_onward : {A : Type 0} (f : Format A) (s : List ℕ) (c : Cursor) → is_open (cursor_after f s c) ≡ true → c.at ≤ (cursor_after f s c).at
unfolding cursor_after
after_onward (gives a) s c e = omega arith
after_onward (field f fault next) s c e =
    omega (
      arith,
      after_onward (next (field_value f (drop c.at s))) s (step_after f fault s c) e,
      step_at f fault s c (open_before (next (field_value f (drop c.at s))) s (step_after f fault s c) e),
    )

-- a format that takes a byte at least
abbrev Onward : {A : Type 0} → Format A → List ℕ → Type 0
Onward f s = (c : Cursor) → is_open (cursor_after f s c) ≡ true → c.at < (cursor_after f s c).at

field_onward : {A : Type 0} (f : Field) (fault : Value f → Option Fault) (next : Value f → Format A) (s : List ℕ) → ((r : List ℕ) → 1 ≤ field_length f r) → Onward (field f fault next) s
unfolding cursor_after
field_onward {A = A} f fault next s h c e =
    let later : Format A = next (field_value f (drop c.at s)) in
    let step : Cursor = step_after f fault s c in
    omega (arith, after_onward later s step e, step_at f fault s c (open_before later s step e), h (drop c.at s))

number_some : (separator : Separator) (r : List ℕ) → 1 ≤ field_length (number separator) r
unfolding field_length
number_some separator r = omega arith

pair_onward : (s : List ℕ) → Onward (free_pair line_feed) s
unfolding free_pair
pair_onward s = field_onward (number blank) _ _ s (number_some blank)

begin_some : (r : List ℕ) → 1 ≤ field_length (word (ascii "begin_mutex_group\n")) r
unfolding field_length ascii
begin_some r = omega arith

group_onward : (s : List ℕ) → Onward group s
unfolding group says
group_onward s = field_onward (word (ascii "begin_mutex_group\n")) _ _ s begin_some

-- more elements than bytes are refused where fewer are
module _ {A : Type 0} (f : Format A) (s : List ℕ) (onward : Onward f s) where
  each_enough : (m n : ℕ) (c : Cursor) → c.at ≤ length s → length s < c.at + m → m ≤ n → cursor_after (each f n) s c ≡ cursor_after (each f m) s c
  each_enough zero n c w h l = absurd (omega arith)
  each_enough (suc m) zero c w h l = absurd (omega arith)
  each_enough (suc m) (suc n) c w h l =
      let next : Cursor = cursor_after f s c in
      each_more f s n c
      ∙ split (is_open next)
      (λ e. each_enough m n next (after_within field_right f s c w) (omega (arith, onward c e)) (omega arith))
      (λ e. after_refused (each f n) s next e ∙ sym (after_refused (each f m) s next e))
      ∙ sym (each_more f s m c)

  each_capped : (n : ℕ) (c : Cursor) → Inside s c.at → cursor_after (each f (capped n)) s c ≡ cursor_after (each f n) s c
  each_capped n c h =
      split_le n 1048576
      (λ l. ap (λ (k : ℕ). cursor_after (each f k) s c) (sym (capped_small n l)))
      (λ l. sym (each_enough (capped n) n c h.within (omega (arith, capped_large n l, h.limited)) (omega (arith, capped_large n l))))

  -- as many as a number says that was read
  each_counted : (c r : Cursor) (n : ReadNumber) → Inside s c.at → n ≡ number_after line_feed s c → r ≡ cursor_after (each f n.value) s n.cursor
      → r ≡ cursor_after (each f (field_value (number line_feed) (drop c.at s))) s (field_after (number line_feed) s c)
  each_counted c r n h e q =
      let counted : Cursor = field_after (number line_feed) s c in
      let v : ℕ = field_value (number line_feed) (drop c.at s) in
      q
      ∙ after_with_number (each f) s counted (capped v) n (number_is line_feed s c n e)
      ∙ each_capped v counted (field_inside (number line_feed) s c counted h refl)

-- a pair, a group and all groups
pub pair_read : (s : List ℕ) (c : Cursor) (variable value : ReadNumber) → variable ≡ number_after blank s c → value ≡ number_after line_feed s variable.cursor → value.cursor ≡ cursor_after (free_pair line_feed) s c
unfolding free_pair number_after cursor_after step_after fault_after
pair_read s c variable value e q = with_number_cursor _ _ value q ∙ ap (field_after (number line_feed) s) (with_number_cursor _ _ variable e)

pub group_read : (s : List ℕ) (c begun : Cursor) (count : ReadNumber) (read r : Cursor) → Inside s c.at
    → begun ≡ field_after (word (ascii "begin_mutex_group\n")) s c
    → count ≡ number_after line_feed s begun
    → read ≡ cursor_after (each (free_pair line_feed) count.value) s count.cursor
    → r ≡ field_after (word (ascii "end_mutex_group\n")) s read
    → r ≡ cursor_after group s c
unfolding group says cursor_after step_after fault_after
group_read s c begun count read r h e₁ e₂ e₃ e₄ =
    let from : Cursor = field_after (word (ascii "begin_mutex_group\n")) s c in
    let n : ℕ = field_value (number line_feed) (drop from.at s) in
    let counted : count ≡ number_after line_feed s from = e₂ ∙ ap (number_after line_feed s) e₁ in
    let listed : read ≡ cursor_after (each (free_pair line_feed) n) s (field_after (number line_feed) s from) =
    each_counted (free_pair line_feed) s (pair_onward s) from read count (field_inside (word (ascii "begin_mutex_group\n")) s c from h refl) counted e₃ in
    e₄ ∙ ap (field_after (word (ascii "end_mutex_group\n")) s) listed ∙ sym (after_bind (each (free_pair line_feed) n) _ s (field_after (number line_feed) s from))

pub groups_read : (s : List ℕ) (c : Cursor) (count : ReadNumber) (r : Cursor) → Inside s c.at → count ≡ number_after line_feed s c → r ≡ cursor_after (each group count.value) s count.cursor → r ≡ groups_after s c
unfolding groups_after cursor_after step_after fault_after
groups_read s c count r h e q = each_counted group s (group_onward s) c r count h e q
