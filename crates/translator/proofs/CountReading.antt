-- Counts, sizes and values, from the code's own tests: a number that passes them is the one that the text has.
use Prim.Native.Nat.{ℕ, ◌≤◌, ◌<◌}
use mathlib.Core.Path.{◌≡◌, refl, sym, ap, ◌∙◌}
use mathlib.Core.Bool.{true, false}
use mathlib.Core.List.{List}
use mathlib.Core.Option.{Option, none}
use native.Mathlib.Omega.{arith}
use lib.Dec.{leb, ltb}
use lib.ListN.{drop}
use borrow.Author.Tests.{leb-true, ltb-true}
use Rattle.files.proofs.Logic.{split}
use Rattle.translator.specs.Cursors.{Cursor}
use Rattle.translator.specs.Cursors.{ReadNumber}
use Rattle.translator.specs.Clauses.{capped, with_number, number_after, judged, number_by, same}
use Rattle.translator.specs.ListContracts.{value_below}
use Rattle.translator.specs.Fields.{number, field_value}
use Rattle.translator.specs.Format.{Fault, outside_limits, out_of_range, unless, is_open, field_after, cursor_after, value_after}
use Rattle.translator.specs.Sas.{line_feed}
use Rattle.translator.specs.Text.{count, size}
use Rattle.translator.proofs.NumberReading.{capped_small}
use Rattle.translator.proofs.StepReading.{with_number_value, step_fine, leb_capped, ltb_capped, least_capped, unless_none, number_is, read_value, read_tested_twice, read_fine, read_with_number}

module _ (s : List ℕ) (c : Cursor) (n : ReadNumber) (is : n ≡ number_after line_feed s c) where
  v : ℕ
  v = field_value (number line_feed) (drop c.at s)

  value_is : is_open (field_after (number line_feed) s c) ≡ true → n.value ≡ capped v
  unfolding v
  value_is = read_value (number line_feed) s c n (capped v) (number_is line_feed s c n is)

  pub count_read : (most : ℕ) (j : Cursor) (r : ReadNumber) → most < 1048576 → j ≡ judged n.cursor (leb n.value most) 4 c.at → r ≡ with_number j n.value → r ≡ number_by (count most) same s c
  unfolding count v
  count_read most j r h =
      read_with_number (number line_feed) s c n capped (number_is line_feed s c n is) outside_limits (λ x. leb x most) same (leb n.value most) j r
      (λ o. ap (λ (x : ℕ). leb x most) (value_is o) ∙ leb_capped v most h)
      (λ t. sym (capped_small v (omega (arith, leb-true v most t))))

  pub value_read : (most : ℕ) (j : Cursor) (r : ReadNumber) → most < 1048576 → j ≡ judged n.cursor (ltb n.value most) 5 c.at → r ≡ with_number j n.value → r ≡ number_by (value_below most) same s c
  unfolding v
  value_read most j r h =
      read_with_number (number line_feed) s c n capped (number_is line_feed s c n is) out_of_range (λ x. ltb x most) same (ltb n.value most) j r
      (λ o. ap (λ (x : ℕ). ltb x most) (value_is o) ∙ ltb_capped v most (omega arith))
      (λ t. sym (capped_small v (omega (arith, ltb-true v most t))))

  pub size_read : (j k : Cursor) (r : ReadNumber) → j ≡ judged n.cursor (leb 1 n.value) 4 c.at → k ≡ judged j (leb n.value 32) 4 c.at → r ≡ with_number k n.value → r ≡ number_by size same s c
  unfolding size v
  size_read j k r e f =
      read_fine (number line_feed) s c n capped (number_is line_feed s c n is) (λ x. unless (leb 1 x) outside_limits (unless (leb x 32) outside_limits none)) same k r
      (λ o. let most : leb v 32 ≡ true = (unless_none (leb v 32) outside_limits none (unless_none (leb 1 v) outside_limits (unless (leb v 32) outside_limits none) o).1).0 in sym (capped_small v (omega (arith, leb-true v 32 most))))
      (read_tested_twice (number line_feed) s c n (capped v) (number_is line_feed s c n is) outside_limits outside_limits (leb 1) (λ x. leb x 32) (leb 1 n.value) (leb n.value 32) j k
      (λ o. ap (leb 1) (value_is o) ∙ least_capped v 1 (omega arith))
      (λ o. ap (λ (x : ℕ). leb x 32) (value_is o) ∙ leb_capped v 32 (omega arith))
      e f)

-- what was read is within its limits
pub size_most : (s : List ℕ) (c : Cursor) → is_open (cursor_after size s c) ≡ true → value_after size s c ≤ 32
unfolding size cursor_after value_after
size_most s c o =
    let v : ℕ = field_value (number line_feed) (drop c.at s) in
    let fault : ℕ → Option Fault = λ x. unless (leb 1 x) outside_limits (unless (leb x 32) outside_limits none) in
    let fine = (unless_none (leb 1 v) outside_limits (unless (leb v 32) outside_limits none) (step_fine (number line_feed) fault s c o)).1 in
    leb-true v 32 (unless_none (leb v 32) outside_limits none fine).0

with_number_none : (c : Cursor) (n : ℕ) (r : ReadNumber) → r ≡ with_number c n → is_open c ≡ false → r.value ≡ 0
unfolding with_number
with_number_none c n r e o = ap (λ (x : ReadNumber). x.value) e ∙ rw o refl

-- also beside a refusal
pub count_most : (s : List ℕ) (c : Cursor) (most : ℕ) (r : ReadNumber) → r ≡ number_by (count most) same s c → r.value ≤ most
unfolding number_by count cursor_after value_after
count_most s c most r e =
    split (is_open (cursor_after (count most) s c))
    (λ o.
    let v : ℕ = field_value (number line_feed) (drop c.at s) in
    let fine : leb v most ≡ true = (unless_none (leb v most) outside_limits none (step_fine (number line_feed) (λ n. unless (leb n most) outside_limits none) s c o)).0 in
    omega (arith, with_number_value (cursor_after (count most) s c) v r e o, leb-true v most fine))
    (λ o. omega (arith, with_number_none (cursor_after (count most) s c) (field_value (number line_feed) (drop c.at s)) r e o))
