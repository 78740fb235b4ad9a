-- A list of pairs, from the code's own steps: each pair is read, tested and stored, and the row gives the variables of all.
use Prim.Native.Nat.{ℕ, ◌+◌, ◌≤◌, ◌<◌}
use mathlib.Core.Path.{◌≡◌, refl, sym, ap, ap₂, ◌∙◌}
use mathlib.Core.Bool.{Bool, true, false, not, ◌&&◌, ◌||◌}
use mathlib.Core.List.{List, ◌∷◌}
use mathlib.Core.Option.{Option, none}
use native.Mathlib.Omega.{arith}
use lib.Dec.{eqb, ltb}
use lib.ListN.{length, get_or, drop}
use borrow.Author.Tests.{ltb-true}
use Rattle.files.proofs.Logic.{split, clash}
use Rattle.files.specs.Below.{any_of}
use Rattle.files.specs.Rows.{stored, filled}
use Rattle.files.specs.Task.{Pair, pair}
use Rattle.translator.specs.Cursors.{Cursor}
use Rattle.translator.specs.Cursors.{ReadNumber}
use Rattle.translator.specs.Clauses.{number_by, same}
use Rattle.translator.specs.ListContracts.{is_new, Given, variable_of, value_below, PairStored}
use Rattle.translator.specs.Fields.{Field, Value, number, field_value}
use Rattle.translator.specs.Format.{Fault, given_twice, out_of_range, unless, Format, gives, field, is_open, field_after, fault_after, step_after, cursor_after, value_after}
use Rattle.translator.specs.Sas.{blank, line_feed}
use Rattle.translator.specs.Stated.{is_value}
use Rattle.translator.specs.Text.{variable_fault, value_fault, condition}
use Rattle.translator.proofs.ReadingLaws.{after_refused, open_before}
use Rattle.translator.proofs.StepReading.{with_number_cursor, with_number_value, step_fine, unless_none}
use Rattle.translator.proofs.RowReading.{new_stored}

-- faults that are the same where something is read
pub step_same : (f : Field) (first second : Value f → Option Fault) (s : List ℕ) (c : Cursor) → (is_open c ≡ true → first (field_value f (drop c.at s)) ≡ second (field_value f (drop c.at s)))
    → step_after f first s c ≡ step_after f second s c
unfolding cursor_after step_after
step_same f first second s c h =
    split (is_open c)
    (λ e. ap (λ (o : Option Fault). fault_after o c.at (field_after f s c)) (h e))
    (λ e. after_refused (field f first gives) s c e ∙ sym (after_refused (field f second gives) s c e))

pub number_cursor : {A : Type 0} (f : Format A) (g : A → ℕ) (s : List ℕ) (c : Cursor) (r : ReadNumber) → r ≡ number_by f g s c → r.cursor ≡ cursor_after f s c
unfolding number_by
number_cursor f g s c r e = with_number_cursor (cursor_after f s c) (g (value_after f s c)) r e

pub number_value : {A : Type 0} (f : Format A) (g : A → ℕ) (s : List ℕ) (c : Cursor) (r : ReadNumber) → r ≡ number_by f g s c → is_open (cursor_after f s c) ≡ true → r.value ≡ g (value_after f s c)
unfolding number_by
number_value f g s c r e o = with_number_value (cursor_after f s c) (g (value_after f s c)) r e o

-- a variable that is read is one of the task's
pub variable_known : (sizes given s : List ℕ) (c : Cursor) → is_open (cursor_after (variable_of sizes given) s c) ≡ true → value_after (variable_of sizes given) s c < length sizes
unfolding cursor_after value_after
variable_known sizes given s c o =
    let v : ℕ = field_value (number blank) (drop c.at s) in
    let fine = (unless_none (not (any_of (eqb v) given)) given_twice (unless (ltb v (length sizes)) out_of_range none) (step_fine (number blank) (variable_fault sizes given) s c o)).1 in
    ltb-true v (length sizes) (unless_none (ltb v (length sizes)) out_of_range none fine).0

pub value_below_lem : (size : ℕ) (s : List ℕ) (c : Cursor) → is_open (cursor_after (value_below size) s c) ≡ true → value_after (value_below size) s c < size
unfolding cursor_after value_after
value_below_lem size s c o =
    let v : ℕ = field_value (number line_feed) (drop c.at s) in
    ltb-true v size (unless_none (ltb v size) out_of_range none (step_fine (number line_feed) (λ n. unless (ltb n size) out_of_range none) s c o)).0

-- nothing is stored behind a refusal
pub pair_up : (s : List ℕ) (c : Cursor) (sizes given row : List ℕ) (base : ℕ) (r : Cursor) (now : List ℕ) → r ≡ cursor_after (condition sizes given) s c → is_open r ≡ false → PairStored s c sizes given row base r now
pair_up s c sizes given row base r now e d = record { cursor = e; row = λ o. clash o d; gives = λ o. clash o d }

-- one pair
module _ (s : List ℕ) (c : Cursor) (sizes given row : List ℕ) (base : ℕ) (n d : ReadNumber) (size : ℕ)
    (few : length sizes ≤ 64) (long : base + 64 ≤ length row) (rows : is_open c ≡ true → Given row row base given)
    (named : n ≡ number_by (variable_of sizes given) same s c) (sized : size ≡ get_or sizes n.value 0) (small : size < 256)
    (stated : d ≡ number_by (value_below size) same s n.cursor) where
  K : Cursor
  K = cursor_after (variable_of sizes given) s c

  w : ℕ
  w = value_after (variable_of sizes given) s c

  moved : n.cursor ≡ K
  unfolding K
  moved = number_cursor (variable_of sizes given) same s c n named

  is : is_open K ≡ true → n.value ≡ w
  unfolding K w
  is = number_value (variable_of sizes given) same s c n named

  known : is_open K ≡ true → w < length sizes
  unfolding K w
  known o = variable_known sizes given s c o

  size_is : is_open K ≡ true → size ≡ get_or sizes w 0
  size_is o = sized ∙ ap (λ (v : ℕ). get_or sizes v 0) (is o)

  after_is : d.cursor ≡ cursor_after (condition sizes given) s c
  unfolding condition cursor_after value_after is_value K w
  after_is =
      number_cursor (value_below size) same s n.cursor d stated
      ∙ ap (cursor_after (value_below size) s) moved
      ∙ step_same (number line_feed) (λ x. unless (ltb x size) out_of_range none) (value_fault sizes w) s K
      (λ o. ap (λ (k : ℕ). unless (ltb (field_value (number line_feed) (drop K.at s)) k) out_of_range none) (size_is o))

  opened : is_open d.cursor ≡ true → is_open K ≡ true
  opened o = open_before (value_below size) s K (sym (ap is_open (number_cursor (value_below size) same s n.cursor d stated ∙ ap (cursor_after (value_below size) s) moved)) ∙ o)

  begun : is_open d.cursor ≡ true → is_open c ≡ true
  unfolding K
  begun o = open_before (variable_of sizes given) s c (opened o)

  pair_is : is_open d.cursor ≡ true → pair n.value d.value ≡ value_after (condition sizes given) s c
  unfolding condition cursor_after value_after K w
  pair_is o =
      let here = is (opened o) in
      let there : d.value ≡ value_after (value_below size) s K =
      number_value (value_below size) same s n.cursor d stated (sym (ap is_open (number_cursor (value_below size) same s n.cursor d stated)) ∙ o) ∙ ap (value_after (value_below size) s) moved in
      λ i. pair (here i) (there i)

  bounded : is_open d.cursor ≡ true → d.value < size
  bounded o =
      let e : is_open (cursor_after (value_below size) s n.cursor) ≡ true = sym (ap is_open (number_cursor (value_below size) same s n.cursor d stated)) ∙ o in
      let h = value_below_lem size s n.cursor e in
      omega (arith, number_value (value_below size) same s n.cursor d stated e)

  pub pair_stored : (now : List ℕ) → now ≡ stored row base n.value d.value → PairStored s c sizes given row base d.cursor now
  unfolding filled
  pair_stored now e =
      record {
        cursor = after_is;
        row = λ o. e ∙ ap (λ (p : Pair). stored row base p.variable p.value) (pair_is o);
        gives = λ o v.
            let k : n.value < 64 = omega (arith, is (opened o), known (opened o)) in
            let new : is_new now base v ≡ not (eqb v n.value) && is_new row base v =
            ap (λ (l : List ℕ). is_new l base v) e ∙ new_stored row base n.value d.value v k (omega (arith, bounded o)) long in
            ap₂ ◌&&◌ new new
            ∙ joined (eqb v n.value) (is_new row base v) (any_of (eqb v) given) (rows (begun o) v)
            ∙ ap (λ (p : Pair). not (any_of (eqb v) (p.variable ∷ given))) (pair_is o);
      }
    where
      joined : (a b g : Bool) → b && b ≡ not g → (not a && b) && (not a && b) ≡ not (a || g)
      joined true b g h = refl
      joined false b g h = h
