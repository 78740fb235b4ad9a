-- The loop over a list of pairs: what is left to be read and stored makes of the row what all pairs make of it.
use Prim.Native.Nat.{ℕ, ◌+◌, ◌-◌, ◌≤◌, ◌<◌}
use mathlib.Core.Path.{◌≡◌, refl, sym, ap, ap₂, subst, ◌∙◌}
use mathlib.Core.Bool.{Bool, true, false, not, ◌||◌}
use mathlib.Core.List.{List, [], ◌∷◌}
use native.Mathlib.Omega.{arith}
use lib.Dec.{eqb}
use lib.ListN.{length, get_or}
use borrow.Author.Tests.{le-leb, lt-leb}
use Rattle.files.proofs.Logic.{split_le, clash}
use Rattle.files.specs.Below.{any_of}
use Rattle.files.specs.Rows.{cleared, filled}
use Rattle.files.specs.Task.{Pair}
use Rattle.translator.specs.Cursors.{Cursor}
use Rattle.translator.specs.ListContracts.{is_new, Given, PairStored, ListRead}
use Rattle.translator.specs.Format.{repeat, cursor_refused, is_open, cursor_after, value_after}
use Rattle.translator.specs.Stated.{variables_of}
use Rattle.translator.specs.Text.{condition, conditions}
use Rattle.files.specs.declared.refusals.Refusal.{Refusal}
use Rattle.files.specs.Outcome.{refused}
use Rattle.translator.proofs.Calls.{closed, after_shut}
use Rattle.translator.proofs.OrderLaws.{none_some}
use Rattle.translator.proofs.RowsInOrder.{filled_cell}
use Rattle.translator.proofs.ReadingLaws.{after_refused, open_before}
use Rattle.translator.proofs.RepeatReading.{repeat_next, repeat_others}

-- a row that is cleared gives no variable
pub cleared_given : (row : List ℕ) (base : ℕ) → base + 64 ≤ length row → Given (cleared row base 64) (cleared row base 64) base []
unfolding is_new filled
cleared_given row base h v =
    split_le 64 v
    (λ l. rw (le-leb 64 v l) refl)
    (λ l.
    let empty : eqb (get_or (cleared row base 64) (base + v) 0) 255 ≡ true = filled_cell 64 row base [] v (omega arith) l h tt (λ w x e. absurd (none_some refl e)) in
    rw (lt-leb 64 v l, empty) refl)

filled_append : (row : List ℕ) (base : ℕ) (p : Pair) (ps : List Pair) → filled (filled row base (p ∷ [])) base ps ≡ filled row base (p ∷ ps)
unfolding filled
filled_append row base p ps = refl

-- what is left of a list of pairs, with the variables that were given so far
pub record ConditionsLeft (s sizes : List ℕ) (base : ℕ) (whole : Cursor) (pairs : List Pair) (blank : List ℕ) (here : Cursor) (left : ℕ) (row : List ℕ) : Type 0 where
  pub given : List ℕ
  pub cursor : cursor_after (conditions sizes given left) s here ≡ whole
  pub cells : is_open here ≡ true → Given row row base given
  pub rest : is_open whole ≡ true → filled row base (value_after (conditions sizes given left) s here) ≡ filled blank base pairs
  pub members : (v : ℕ) → any_of (eqb v) given || any_of (eqb v) (variables_of (value_after (conditions sizes given left) s here)) ≡ any_of (eqb v) (variables_of pairs)

pub conditions_start : (s sizes : List ℕ) (base : ℕ) (c : Cursor) (count : ℕ) (before row : List ℕ) → base + 64 ≤ length before → row ≡ cleared before base 64
    → ConditionsLeft s sizes base (cursor_after (conditions sizes [] count) s c) (value_after (conditions sizes [] count) s c) row c count row
conditions_start s sizes base c count before row h e =
    record {
      given = [];
      cursor = refl;
      cells = λ o. rw e (cleared_given before base h);
      rest = λ o. refl;
      members = λ v. refl;
    }

module _ (s sizes : List ℕ) (base : ℕ) (whole : Cursor) (pairs : List Pair) (blank : List ℕ) (here : Cursor) (left : ℕ) (row : List ℕ) (inv : ConditionsLeft s sizes base whole pairs blank here left row) where
  pub conditions_next : (next : Cursor) (now : List ℕ) → 0 < left → ((given : List ℕ) → (is_open here ≡ true → Given row row base given) → PairStored s here sizes given row base next now)
      → ConditionsLeft s sizes base whole pairs blank next (left - 1) now
  unfolding conditions
  conditions_next next now h q =
      let given : List ℕ = inv.given in
      let p : Pair = value_after (condition sizes given) s here in
      let one : PairStored s here sizes given row base next now = q given inv.cells in
      let moved : cursor_after (conditions sizes (p.variable ∷ given) (left - 1)) s next ≡ whole =
      repeat_next (condition sizes) (λ given p. p.variable ∷ given) s given left here next h one.cursor ∙ inv.cursor in
      let others : value_after (conditions sizes given left) s here ≡ p ∷ value_after (conditions sizes (p.variable ∷ given) (left - 1)) s next =
      repeat_others (condition sizes) (λ given p. p.variable ∷ given) s given left here next h one.cursor in
      record {
        given = p.variable ∷ given;
        cursor = moved;
        cells = one.gives;
        rest = λ o.
            let l : List Pair = value_after (conditions sizes (p.variable ∷ given) (left - 1)) s next in
            ap (λ (x : List ℕ). filled x base l) (one.row (open_before (conditions sizes (p.variable ∷ given) (left - 1)) s next (ap is_open moved ∙ o)))
            ∙ filled_append row base p l
            ∙ sym (ap (filled row base) others)
            ∙ inv.rest o;
        members = λ v.
            moved_left (eqb v p.variable) (any_of (eqb v) given) (any_of (eqb v) (variables_of (value_after (conditions sizes (p.variable ∷ given) (left - 1)) s next)))
            ∙ sym (ap (λ (l : List Pair). any_of (eqb v) given || any_of (eqb v) (variables_of l)) others)
            ∙ inv.members v;
      }
    where
      moved_left : (a b c : Bool) → (a || b) || c ≡ b || (a || c)
      moved_left true true c = refl
      moved_left true false c = refl
      moved_left false b c = refl

  pub conditions_stop : is_open here ≡ false → here ≡ whole
  conditions_stop d = sym (after_refused (conditions sizes inv.given left) s here d) ∙ inv.cursor

  pub conditions_end : (c : Cursor) (count : ℕ) (before : List ℕ) → left ≤ 0 → whole ≡ cursor_after (conditions sizes [] count) s c → pairs ≡ value_after (conditions sizes [] count) s c → blank ≡ cleared before base 64
      → ListRead s c count sizes before base here row
  unfolding conditions repeat cursor_after value_after filled
  conditions_end c count before h e f g =
      let none : left ≡ 0 = omega arith in
      let moved : here ≡ whole = sym (ap (λ (n : ℕ). cursor_after (conditions sizes inv.given n) s here) none) ∙ inv.cursor in
      let empty : value_after (conditions sizes inv.given left) s here ≡ [] = ap (λ (n : ℕ). value_after (conditions sizes inv.given n) s here) none in
      let listed : pairs ≡ value_after (conditions sizes [] count) s c = f in
      record {
        cursor = moved ∙ e;
        row = λ o. sym (ap (filled row base) empty) ∙ inv.rest (sym (ap is_open moved) ∙ o) ∙ ap₂ (λ (l : List ℕ) (ps : List Pair). filled l base ps) g listed;
        gives = λ o v.
            inv.cells o v
            ∙ ap not (sym (or_false (any_of (eqb v) inv.given)) ∙ sym (ap (λ (l : List Pair). any_of (eqb v) inv.given || any_of (eqb v) (variables_of l)) empty) ∙ inv.members v)
            ∙ ap (λ (l : List Pair). not (any_of (eqb v) (variables_of l))) listed;
      }
    where
      or_false : (b : Bool) → b || false ≡ b
      or_false true = refl
      or_false false = refl

-- a loop that counts up
pub conditions_from : (s sizes : List ℕ) (base : ℕ) (c : Cursor) (count : ℕ) (before row : List ℕ) → base + 64 ≤ length before → row ≡ cleared before base 64
    → ConditionsLeft s sizes base (cursor_after (conditions sizes [] count) s c) (value_after (conditions sizes [] count) s c) row c (count - 0) row
conditions_from s sizes base c count before row h e =
    let all : count ≡ count - 0 = omega arith in
    subst (λ (n : ℕ). ConditionsLeft s sizes base (cursor_after (conditions sizes [] count) s c) (value_after (conditions sizes [] count) s c) row c n row) all (conditions_start s sizes base c count before row h e)

module _ (s sizes : List ℕ) (base : ℕ) (whole : Cursor) (pairs : List Pair) (blank : List ℕ) (here : Cursor) (count i : ℕ) (row : List ℕ) (inv : ConditionsLeft s sizes base whole pairs blank here (count - i) row) where
  pub conditions_on : (next : Cursor) (now : List ℕ) → i < count → ((given : List ℕ) → (is_open here ≡ true → Given row row base given) → PairStored s here sizes given row base next now)
      → ConditionsLeft s sizes base whole pairs blank next (count - (i + 1)) now
  conditions_on next now h q =
      let further : count - i - 1 ≡ count - (i + 1) = omega arith in
      subst (λ (n : ℕ). ConditionsLeft s sizes base whole pairs blank next n now) further (conditions_next s sizes base whole pairs blank here (count - i) row inv next now (omega arith) q)

pub list_up : (s : List ℕ) (c : Cursor) (count : ℕ) (sizes before : List ℕ) (base : ℕ) (r : Cursor) (now : List ℕ) → r ≡ cursor_after (conditions sizes [] count) s c → is_open r ≡ false
    → ListRead s c count sizes before base r now
list_up s c count sizes before base r now e d = record { cursor = e; row = λ o. clash o d; gives = λ o. clash o d }

pub list_shut : (s : List ℕ) (e : Refusal) (count : ℕ) (sizes before : List ℕ) (base : ℕ) (now : List ℕ) → ListRead s (cursor_refused (refused e)) count sizes before base (cursor_refused (refused e)) now
list_shut s e count sizes before base now = list_up s _ count sizes before base _ now (after_shut s e (conditions sizes [] count)) (closed e)
