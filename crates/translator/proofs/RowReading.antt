-- Rows while pairs are stored in them: which variables have a pair, and numbers that name a variable.
use Prim.Native.Nat.{ℕ, ◌+◌, ◌%◌, ◌≤◌, ◌<◌}
use mathlib.Core.Path.{◌≡◌, refl, sym, ap, ◌∙◌}
use mathlib.Core.Bool.{Bool, true, false, not, ◌&&◌}
use mathlib.Core.List.{List}
use mathlib.Core.Option.{none}
use native.Mathlib.Omega.{arith}
use lib.Dec.{eqb, ltb}
use lib.ListN.{length, get_or, drop, set}
use lib.Seq.{get_or-set_same, get_or-set_other}
use borrow.Author.Tests.{le-leb, lt-leb, lt-ltb, ne_eqb, eqb-true, eqb-false, ltb-true}
use Rattle.files.proofs.Logic.{split, split_le}
use Rattle.files.specs.Below.{any_of}
use Rattle.files.specs.Rows.{stored}
use Rattle.translator.specs.Cursors.{Cursor}
use Rattle.translator.specs.Cursors.{ReadNumber}
use Rattle.translator.specs.Clauses.{capped, with_number, number_after, judged, number_by, same}
use Rattle.translator.specs.ListContracts.{is_new, Given, variable_of}
use Rattle.translator.specs.Fields.{number, field_value}
use Rattle.translator.specs.Format.{given_twice, out_of_range, unless, is_open, field_after, fault_after, step_after}
use Rattle.translator.specs.Sas.{blank}
use Rattle.translator.specs.Text.{variable_fault}
use Rattle.translator.proofs.NumberReading.{capped_small, capped_large}
use Rattle.translator.proofs.ReadingLaws.{fault_refused}
use Rattle.translator.proofs.InsideReading.{field_before}
use Rattle.translator.proofs.StepReading.{ltb_capped, fault_judged, fault_then, fault_both, fault_before, unless_none, number_is, read_fine, read_value, read_tested}

-- which variables are new
pub new_beyond : (row : List ℕ) (base v : ℕ) → 64 ≤ v → true ≡ is_new row base v
unfolding is_new
new_beyond row base v h = rw (le-leb 64 v h) refl

pub new_cell : (row : List ℕ) (base v x : ℕ) → v < 64 → x ≡ get_or row (base + v) 0 → eqb x 255 ≡ is_new row base v
unfolding is_new
new_cell row base v x h e = rw (lt-leb 64 v h) (ap (λ (y : ℕ). eqb y 255) e)

new_capped : (row : List ℕ) (base v : ℕ) → is_new row base (capped v) ≡ is_new row base v
new_capped row base v =
    split_le v 1048576
    (λ h. ap (is_new row base) (sym (capped_small v h)))
    (λ h. let c = capped_large v h in sym (new_beyond row base (capped v) (omega arith)) ∙ new_beyond row base v (omega arith))

-- a pair that is stored gives its variable
stored_cell : (row : List ℕ) (base v value : ℕ) → v < 64 → value < 255 → base + 64 ≤ length row → eqb (get_or (stored row base v value) (base + v) 0) 255 ≡ false
unfolding stored
stored_cell row base v value h k r =
    rw (lt-ltb v 64 h)
    (let is : get_or (set row (base + v) (value % 256)) (base + v) 0 ≡ value % 256 = get_or-set_same row (base + v) (value % 256) 0 (omega arith) in
    ne_eqb (get_or (set row (base + v) (value % 256)) (base + v) 0) 255 (λ e. omega arith))

stored_other : (row : List ℕ) (base v value w : ℕ) → v < 64 → (w ≡ v → ⊥) → get_or (stored row base v value) (base + w) 0 ≡ get_or row (base + w) 0
unfolding stored
stored_other row base v value w h d = rw (lt-ltb v 64 h) (get_or-set_other row (base + v) (base + w) (value % 256) 0 (λ q. d (omega arith)))

pub new_stored : (row : List ℕ) (base v value w : ℕ) → v < 64 → value < 255 → base + 64 ≤ length row → is_new (stored row base v value) base w ≡ not (eqb w v) && is_new row base w
unfolding is_new
new_stored row base v value w h k r =
    split_le 64 w
    (λ l. rw (le-leb 64 w l, ne_eqb w v (λ e. omega arith)) refl)
    (λ l. rw (lt-leb 64 w l)
    (split (eqb w v)
    (λ e. rw e (ap (λ (x : ℕ). eqb (get_or (stored row base v value) (base + x) 0) 255) (eqb-true w v e) ∙ stored_cell row base v value h k r))
    (λ e. rw e (ap (λ (x : ℕ). eqb x 255) (stored_other row base v value w h (eqb-false w v e))))))

-- a variable, by the tests on it
module _ (s : List ℕ) (c : Cursor) (n : ReadNumber) (is : n ≡ number_after blank s c) (sizes given : List ℕ) where
  v : ℕ
  v = field_value (number blank) (drop c.at s)

  value_is : is_open (field_after (number blank) s c) ≡ true → n.value ≡ capped v
  unfolding v
  value_is = read_value (number blank) s c n (capped v) (number_is blank s c n is)

  pub variable_read_lem : (first second : List ℕ) (base variables : ℕ) (j k l : Cursor) (r : ReadNumber)
      (b d : Bool) → variables ≤ 64 → length sizes ≡ variables → (is_open c ≡ true → Given first second base given) → b ≡ is_new first base n.value → d ≡ is_new second base n.value
      → j ≡ judged n.cursor b 33 c.at → k ≡ judged j d 33 c.at → l ≡ judged k (ltb n.value variables) 5 c.at → r ≡ with_number l n.value
      → r ≡ number_by (variable_of sizes given) same s c
  unfolding step_after v
  variable_read_lem first second base variables j k l r b d few count rows x y e f g q =
      let F : Cursor = field_after (number blank) s c in
      let new : ℕ → Bool = λ x. not (any_of (eqb x) given) in
      let once : j ≡ fault_after (unless (is_new first base v) given_twice none) c.at F =
      read_tested (number blank) s c n (capped v) (number_is blank s c n is) given_twice (is_new first base) b j (λ o. x ∙ ap (is_new first base) (value_is o) ∙ new_capped first base v) e in
      let twice : k ≡ fault_after (unless (new v) given_twice none) c.at F =
      f ∙ ap (λ (z : Cursor). judged z d 33 c.at) once
      ∙ fault_judged _ d (is_new second base v) given_twice c.at
      (λ o. y ∙ ap (is_new second base) (value_is (fault_before (unless (is_new first base v) given_twice none) c.at F o)) ∙ new_capped second base v)
      ∙ fault_both (is_new first base v) (is_new second base v) given_twice c.at F
      ∙ split (is_open F)
      (λ o. ap (λ (t : Bool). fault_after (unless t given_twice none) c.at F) (rows (field_before (number blank) s c o) v))
      (λ o. fault_refused _ c.at F o ∙ sym (fault_refused _ c.at F o)) in
      let moved : l ≡ step_after (number blank) (variable_fault sizes given) s c =
      g ∙ ap (λ (x : Cursor). judged x (ltb n.value variables) 5 c.at) twice
      ∙ fault_judged _ (ltb n.value variables) (ltb v (length sizes)) out_of_range c.at
      (λ o. ap (λ (x : ℕ). ltb x variables) (value_is (fault_before (unless (new v) given_twice none) c.at F o)) ∙ ltb_capped v variables (omega arith) ∙ ap (ltb v) (sym count))
      ∙ fault_then (new v) given_twice (unless (ltb v (length sizes)) out_of_range none) c.at F in
      read_fine (number blank) s c n capped (number_is blank s c n is) (variable_fault sizes given) same l r
      (λ o.
      let fine = (unless_none (new v) given_twice (unless (ltb v (length sizes)) out_of_range none) o).1 in
      let known : ltb v (length sizes) ≡ true = (unless_none (ltb v (length sizes)) out_of_range none fine).0 in
      sym (capped_small v (omega (arith, ltb-true v (length sizes) known))))
      moved q
