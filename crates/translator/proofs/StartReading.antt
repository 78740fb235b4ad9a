-- Lists of which a number of each element is stored, from the code's own steps: declarations with their sizes, and start values.
use Prim.Native.Nat.{ℕ, suc, ◌+◌, ◌-◌, ◌%◌, ◌≤◌, ◌<◌}
use mathlib.Core.Path.{◌≡◌, refl, sym, ap, ap₂, ◌∙◌}
use mathlib.Core.Bool.{true, false}
use mathlib.Core.List.{List, [], ◌∷◌, map}
use mathlib.Core.Option.{none}
use native.Mathlib.Omega.{arith}
use lib.ListN.{length, get_or, take, drop, set, length-map, length-set, drop_of_length-le, get_or-map}
use lib.Seq.{length-take-le, drop-cons, get_or-take}
use Rattle.files.specs.Bytes.{placed}
use Rattle.files.proofs.Logic.{clash, split}
use Rattle.translator.specs.Cursors.{Cursor}
use Rattle.translator.specs.Cursors.{ReadNumber}
use Rattle.translator.specs.Clauses.{with_number, number_by, same}
use Rattle.translator.specs.VariableContracts.{size_of, DeclarationsRead, StartsStored, StartsRead}
use Rattle.translator.specs.ListContracts.{value_below}
use Rattle.translator.specs.Format.{Format, gives, is_open, cursor_after, value_after}
use Rattle.translator.specs.Sas.{Declaration}
use Rattle.translator.specs.Stated.{sizes_of}
use Rattle.translator.specs.Text.{each, declaration, start, starts}
use Rattle.translator.proofs.ReadingLaws.{after_refused, open_before}
use Rattle.translator.proofs.ListReading.{number_cursor}
use Rattle.translator.proofs.RepeatReading.{first, first_after, first_value, each_empty, each_first}
use Rattle.translator.proofs.StepReading.{with_number_value}

-- what is left to be read and stored gives the whole
pub record Storing {A : Type 0} (cell : A → ℕ) (s : List ℕ) (all : Format (List A)) (from : Cursor) (before : List ℕ) (left : Format (List A)) (here : Cursor) (v : ℕ) (cells : List ℕ) : Type 0 where
  pub onward : cursor_after left s here ≡ cursor_after all s from
  pub stored : is_open (cursor_after all s from) ≡ true
      → placed cells v (map (λ a. cell a % 256) (value_after left s here)) ≡ placed before 0 (map (λ a. cell a % 256) (value_after all s from))

module _ {A : Type 0} (cell : A → ℕ) (s : List ℕ) (all : Format (List A)) (from : Cursor) (before : List ℕ) where
  storing_begin : (left : Format (List A)) → left ≡ all → Storing cell s all from before left from 0 before
  storing_begin left e =
      record {
        onward = ap (λ (x : Format (List A)). cursor_after x s from) e;
        stored = λ o. ap (λ (x : Format (List A)). placed before 0 (map (λ a. cell a % 256) (value_after x s from))) e;
      }

  module _ (left : Format (List A)) (here : Cursor) (v : ℕ) (cells : List ℕ) (inv : Storing cell s all from before left here v cells) where
    storing_next : (f : Format A) (rest : Format (List A)) (one : ReadNumber) → left ≡ first f (λ a. rest) → one ≡ number_by f cell s here
        → Storing cell s all from before rest one.cursor (v + 1) (set cells v (one.value % 256))
    unfolding number_by with_number placed
    storing_next f rest one e q =
        let moved : one.cursor ≡ cursor_after f s here = ap (λ (x : ReadNumber). x.cursor) q in
        let onward : cursor_after rest s (cursor_after f s here) ≡ cursor_after all s from = sym (first_after f (λ a. rest) s here) ∙ sym (ap (λ (x : Format (List A)). cursor_after x s here) e) ∙ inv.onward in
        let values : value_after left s here ≡ value_after f s here ∷ value_after rest s (cursor_after f s here) = ap (λ (x : Format (List A)). value_after x s here) e ∙ first_value f (λ a. rest) s here in
        record {
          onward = ap (cursor_after rest s) moved ∙ onward;
          stored =
              λ o.
              let value : one.value ≡ cell (value_after f s here) = with_number_value (cursor_after f s here) (cell (value_after f s here)) one q (open_before rest s (cursor_after f s here) (ap is_open onward ∙ o)) in
              ap₂ (λ (x : Cursor) (n : ℕ). placed (set cells v (n % 256)) (v + 1) (map (λ a. cell a % 256) (value_after rest s x))) moved value
              ∙ sym (ap (λ (l : List A). placed cells v (map (λ a. cell a % 256) l)) values)
              ∙ inv.stored o;
        }

    storing_cursor : left ≡ gives [] → here ≡ cursor_after all s from
    unfolding cursor_after
    storing_cursor e = sym (ap (λ (x : Format (List A)). cursor_after x s here) e) ∙ inv.onward

    storing_stop : is_open here ≡ false → here ≡ cursor_after all s from
    storing_stop d = sym (after_refused left s here d) ∙ inv.onward

    storing_cells : left ≡ gives [] → is_open here ≡ true → cells ≡ placed before 0 (map (λ a. cell a % 256) (value_after all s from))
    unfolding value_after placed
    storing_cells e o =
        sym (ap (λ (x : Format (List A)). placed cells v (map (λ a. cell a % 256) (value_after x s here))) e)
        ∙ inv.stored (sym (ap is_open (storing_cursor e)) ∙ o)

-- declarations
abbrev pub DeclarationsFrom : List ℕ → Cursor → ℕ → List ℕ → Cursor → ℕ → List ℕ → Type 0
DeclarationsFrom s c count before here v cells =
    Storing size_of s (each declaration count) c before (each declaration (count - v)) here v cells
    × (length cells ≡ length before)
    × (v ≤ count)

pub declarations_start : (s : List ℕ) (c : Cursor) (count : ℕ) (before : List ℕ) → DeclarationsFrom s c count before c 0 before
declarations_start s c count before = (storing_begin size_of s (each declaration count) c before _ (ap (each declaration) (omega arith)), refl, omega arith)

module _ (s : List ℕ) (c : Cursor) (count : ℕ) (before : List ℕ) (here : Cursor) (v : ℕ) (cells : List ℕ) (inv : DeclarationsFrom s c count before here v cells) where
  pub declarations_next : (one : ReadNumber) → v < count → one ≡ number_by declaration size_of s here → DeclarationsFrom s c count before one.cursor (v + 1) (set cells v (one.value % 256))
  declarations_next one h q = (
    storing_next size_of s (each declaration count) c before _ here v cells inv.0 declaration (each declaration (count - (v + 1))) one (each_first declaration (count - v) (count - (v + 1)) (omega arith)) q,
    length-set cells v (one.value % 256) ∙ inv.1,
    omega arith,
  )

  pub declarations_up : (one : ReadNumber) (now : List ℕ) → v < count → one ≡ number_by declaration size_of s here → is_open one.cursor ≡ false → DeclarationsRead s c count before one.cursor now
  declarations_up one now h q d =
      let on = declarations_next one h q in
      record { cursor = storing_stop size_of s (each declaration count) c before _ one.cursor (v + 1) _ on.0 d; stored = λ o. clash o d }

  pub declarations_end : count ≤ v → DeclarationsRead s c count before here cells
  declarations_end h =
      let none_left : each declaration (count - v) ≡ gives [] = each_empty declaration (count - v) (omega arith) in
      record {
        cursor = storing_cursor size_of s (each declaration count) c before _ here v cells inv.0 none_left;
        stored = storing_cells size_of s (each declaration count) c before _ here v cells inv.0 none_left;
      }

-- start values
starts_empty : (ds : List Declaration) → ds ≡ [] → starts ds ≡ gives []
unfolding starts
starts_empty ds e = ap starts e

starts_first : (ds : List Declaration) (d : Declaration) (others : List Declaration) → ds ≡ d ∷ others → starts ds ≡ first (start d) (λ a. starts others)
unfolding starts
starts_first ds d others e = ap starts e

-- a start value is a value below the size
start_is : (d : Declaration) (size : ℕ) (s : List ℕ) (c : Cursor) (r : ReadNumber) → size_of d ≡ size → r ≡ number_by (value_below size) same s c → r ≡ number_by (start d) (λ v. v.start) s c
unfolding number_by start cursor_after value_after
start_is d size s c r e q = q ∙ sym (ap (λ (n : ℕ). number_by (value_below n) same s c) e)

undeclared : Declaration
undeclared = record { name = []; layer = none; values = [] }

-- the declarations that have the sizes
module _ (ds : List Declaration) (count : ℕ) (sizes : List ℕ) (is : sizes_of ds ≡ take count sizes) (room : count ≤ length sizes) where
  declared_count : length ds ≡ count
  declared_count = sym (length-map ds size_of) ∙ ap length is ∙ length-take-le count sizes room

  module _ (v : ℕ) (h : v < count) where
    declared_size : size_of (get_or ds v undeclared) ≡ get_or sizes v 0
    unfolding undeclared
    declared_size = sym (get_or-map size_of ds v undeclared) ∙ ap (λ (l : List ℕ). get_or l v 0) is ∙ get_or-take count sizes v 0 h

    declared_first : drop v ds ≡ get_or ds v undeclared ∷ drop (v + 1) ds
    declared_first =
        let e : suc v ≡ v + 1 = omega arith in
        drop-cons ds v undeclared (omega (arith, declared_count)) ∙ ap (λ (n : ℕ). get_or ds v undeclared ∷ drop n ds) e

abbrev pub StartsFrom : List ℕ → Cursor → ℕ → List ℕ → List ℕ → Cursor → ℕ → List ℕ → Type 0
StartsFrom s c count sizes before here v cells =
    ((ds : List Declaration) → sizes_of ds ≡ take count sizes → Storing (λ x. x.start) s (starts ds) c before (starts (drop v ds)) here v cells)
    × (length cells ≡ length before)
    × (v ≤ count)
    × (is_open c ≡ false → here ≡ c)

pub starts_start : (s : List ℕ) (c : Cursor) (count : ℕ) (sizes before : List ℕ) → StartsFrom s c count sizes before c 0 before
starts_start s c count sizes before = (λ ds e. storing_begin (λ x. x.start) s (starts ds) c before _ refl, refl, omega arith, λ o. refl)

module _ (s : List ℕ) (c : Cursor) (count : ℕ) (sizes before : List ℕ) (here : Cursor) (v : ℕ) (cells : List ℕ) (room : count ≤ length sizes) (inv : StartsFrom s c count sizes before here v cells) where
  pub starts_next : (one : ReadNumber) → v < count → one ≡ number_by (value_below (get_or sizes v 0)) same s here → StartsFrom s c count sizes before one.cursor (v + 1) (set cells v (one.value % 256))
  starts_next one h q = (
    λ ds e.
        let d : Declaration = get_or ds v undeclared in
        storing_next (λ x. x.start) s (starts ds) c before _ here v cells (inv.0 ds e) (start d) (starts (drop (v + 1) ds)) one
        (starts_first (drop v ds) d (drop (v + 1) ds) (declared_first ds count sizes e room v h))
        (start_is d (get_or sizes v 0) s here one (declared_size ds count sizes e room v h) q),
    length-set cells v (one.value % 256) ∙ inv.1,
    omega arith,
    λ o. number_cursor (value_below (get_or sizes v 0)) same s here one q ∙ after_refused (value_below (get_or sizes v 0)) s here (ap is_open (inv.3 o) ∙ o) ∙ inv.3 o,
  )

  pub starts_up : (one : ReadNumber) (now : List ℕ) → v < count → one ≡ number_by (value_below (get_or sizes v 0)) same s here → is_open c ≡ true → is_open one.cursor ≡ false → StartsRead s c count sizes before one.cursor now
  starts_up one now h q p d =
      let on = starts_next one h q in
      record {
        is = λ ds e.
            record { cursor = storing_stop (λ x. x.start) s (starts ds) c before _ one.cursor (v + 1) _ (on.0 ds (e p)) d; stored = λ o. clash o d };
      }

  starts_stored : count ≤ v → (ds : List Declaration) → sizes_of ds ≡ take count sizes → StartsStored s c ds before here cells
  starts_stored h ds e =
      let short : length ds ≤ v = omega (arith, declared_count ds count sizes e room) in
      let none_left : starts (drop v ds) ≡ gives [] = starts_empty (drop v ds) (drop_of_length-le ds short) in
      record {
        cursor = storing_cursor (λ x. x.start) s (starts ds) c before _ here v cells (inv.0 ds e) none_left;
        stored = storing_cells (λ x. x.start) s (starts ds) c before _ here v cells (inv.0 ds e) none_left;
      }

  pub starts_end : count ≤ v → StartsRead s c count sizes before here cells
  starts_end h =
      record {
        is = λ ds e.
            split (is_open c)
            (λ o. starts_stored h ds (e o))
            (λ o. record { cursor = inv.3 o ∙ sym (after_refused (starts ds) s c o); stored = λ q. clash q (ap is_open (inv.3 o) ∙ o) });
      }
