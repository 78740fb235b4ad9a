-- Layers, names and declarations, from the code's own steps.
use Prim.Native.Nat.{ℕ, ◌≤◌}
use mathlib.Core.Path.{◌≡◌, sym, ap, ap₂, ◌∙◌}
use mathlib.Core.Bool.{true}
use mathlib.Core.List.{List}
use mathlib.Core.Option.{Option}
use native.Mathlib.Omega.{arith}
use lib.Dec.{eqb}
use lib.ListN.{drop}
use Rattle.digits.specs.Decimal.{ascii}
use Rattle.translator.specs.Cursors.{Cursor}
use Rattle.translator.specs.Cursors.{ReadNumber}
use Rattle.translator.specs.Clauses.{coded, with_number, signed_after, judged, number_by, same}
use Rattle.translator.specs.VariableContracts.{size_of, layer_after}
use Rattle.translator.specs.Fields.{word, name, signed, field_value}
use Rattle.translator.specs.Format.{unsupported, gives, field, is_open, field_after, fault_after, step_after, cursor_after, value_after}
use Rattle.translator.specs.Sas.{line_feed}
use Rattle.translator.specs.Stated.{is_none}
use Rattle.translator.specs.Text.{any, says, size, name_lines, declaration}
use Rattle.translator.proofs.ReadingLaws.{after_bind, value_bind, open_before}
use Rattle.translator.proofs.CountReading.{size_most}
use Rattle.translator.proofs.StepReading.{with_number_value, with_number_same, signed_is, none_coded, read_value, read_tested}
use Rattle.translator.proofs.RepeatReading.{each_length}
use Rattle.translator.proofs.InsideReading.{field_before, after_with_number}

pub layer_read : (s : List ℕ) (c : Cursor) (n : ReadNumber) (j : Cursor) → n ≡ signed_after line_feed s c → j ≡ judged n.cursor (eqb n.value 1048577) 32 c.at → j ≡ layer_after s c
unfolding layer_after
layer_read s c n j is e =
    let v : Option ℕ = field_value (signed line_feed) (drop c.at s) in
    read_tested (signed line_feed) s c n (coded v) (signed_is line_feed s c n is) unsupported is_none (eqb n.value 1048577) j
    (λ o. ap (λ (x : ℕ). eqb x 1048577) (read_value (signed line_feed) s c n (coded v) (signed_is line_feed s c n is) o) ∙ none_coded v) e

-- a declaration: a size, then as many names
module _ (s : List ℕ) (c : Cursor) where
  front : Cursor
  front = layer_after s (field_after name s (field_after (word (ascii "begin_variable\n")) s c))

  n : ℕ
  n = value_after size s front

  listed : Cursor
  listed = cursor_after (name_lines n) s (cursor_after size s front)

  declaration_after : field_after (word (ascii "end_variable\n")) s listed ≡ cursor_after declaration s c
  unfolding declaration says name_lines cursor_after step_after fault_after layer_after front n listed
  declaration_after = sym (after_bind size _ s front ∙ after_bind (name_lines n) _ s (cursor_after size s front))

  declaration_many : n ≡ size_of (value_after declaration s c)
  unfolding declaration says name_lines cursor_after value_after step_after fault_after layer_after front n listed
  declaration_many = sym (ap size_of (value_bind size _ s front ∙ value_bind (name_lines n) _ s (cursor_after size s front)) ∙ each_length (field name any gives) s n (cursor_after size s front))

  size_open : is_open (field_after (word (ascii "end_variable\n")) s listed) ≡ true → is_open (cursor_after size s front) ≡ true
  unfolding listed
  size_open o = open_before (name_lines n) s (cursor_after size s front) (field_before (word (ascii "end_variable\n")) s (cursor_after (name_lines n) s (cursor_after size s front)) o)

  pub declaration_read : (begun named layered : Cursor) (sized : ReadNumber) (values ended : Cursor) (r : ReadNumber)
      → begun ≡ field_after (word (ascii "begin_variable\n")) s c
      → named ≡ field_after name s begun
      → layered ≡ layer_after s named
      → sized ≡ number_by size same s layered
      → values ≡ cursor_after (name_lines sized.value) s sized.cursor
      → ended ≡ field_after (word (ascii "end_variable\n")) s values
      → r ≡ with_number ended sized.value
      → r ≡ number_by declaration size_of s c
  unfolding number_by front n listed
  declaration_read begun named layered sized values ended r e₁ e₂ e₃ e₄ e₅ e₆ q =
      let is : sized ≡ with_number (cursor_after size s front) n = e₄ ∙ ap (λ (x : Cursor). with_number (cursor_after size s x) (value_after size s x)) (e₃ ∙ ap (layer_after s) (e₂ ∙ ap (field_after name s) e₁)) in
      let end : ended ≡ field_after (word (ascii "end_variable\n")) s listed = e₆ ∙ ap (field_after (word (ascii "end_variable\n")) s) (e₅ ∙ after_with_number name_lines s (cursor_after size s front) n sized is) in
      q
      ∙ with_number_same ended sized.value n (λ o. with_number_value (cursor_after size s front) n sized is (size_open (sym (ap is_open end) ∙ o)))
      ∙ ap₂ with_number (end ∙ declaration_after) declaration_many

  -- a size that was read is at most 32
  pub declaration_size : is_open (cursor_after declaration s c) ≡ true → size_of (value_after declaration s c) ≤ 32
  unfolding n
  declaration_size o = omega (arith, size_most s front (size_open (ap is_open declaration_after ∙ o)), declaration_many)
