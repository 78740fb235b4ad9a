-- Arrays of origins: filled with own numbers they hold the own origins of a task, and filled through the numbers of a second
-- one the two composed.
use Prim.Native.Nat.{ℕ, ◌+◌, ◌*◌, ◌≤◌, ◌<◌}
use mathlib.Core.Path.{◌≡◌, refl, sym, ap, ◌∙◌}
use mathlib.Core.Bool.{Bool, false}
use mathlib.Core.List.{List, [], map}
use native.Mathlib.Omega.{arith}
use lib.ListN.{get_or, length-map}
use Rattle.files.specs.Below.{tabulate, all_below}
use Rattle.files.specs.Clauses.{OriginWithin}
use Rattle.files.specs.Dense.{row_numbers, row_origin, held, held_origin, origin_arrays}
use Rattle.files.specs.declared.arrays.Arrays.{Arrays}
use Rattle.files.specs.declared.arrays.OriginArrays.{OriginArrays}
use Rattle.files.specs.OriginFile.{VariableOrigin}
use Rattle.files.specs.Task.{variable_count, action_count, size_of}
use Rattle.files.proofs.BelowLaws.{all_below_elim, map_entry}
use Rattle.files.proofs.HeldTask.{variables_held, actions_held, size_held}
use Rattle.files.proofs.Logic.{split, clash}
use Rattle.files.proofs.Tabulate.{tabulate_from_length, tabulate_entry, tabulate_is}
use Rattle.marking.proofs.MarkTables.{tabulate_same}
use Rattle.reduction.specs.Composed.{Owns, Composable, Composes}
use Rattle.reduction.specs.Dense.{mapped_cell}
use Rattle.reduction.specs.Turns.{originals, origin_at, composed_variable, composed, own_origin}
use Rattle.reduction.proofs.ReducedHeld.{mapped_known}

-- a test that one number below the bound fails
pub all_fails : (n : ℕ) (f : ℕ → Bool) (i : ℕ) → i < n → f i ≡ false → all_below n f ≡ false
all_fails n f i h q = split (all_below n f) (λ e. clash (all_below_elim n f e i h) q) (λ e. e)

abbrev none : VariableOrigin
none = record { variable = 0; values = [] }

-- own numbers
module _ (d : Arrays) (within : OriginWithin d.variables d.actions d.sizes) (numbers values acts : List ℕ)
    (number : (i default : ℕ) → i < d.variables → i ≡ get_or numbers (0 + i) default)
    (value : (v e : ℕ) → v < d.variables → e < 32 → e ≡ get_or values (32 * v + e) 0)
    (act : (j default : ℕ) → j < d.actions → j ≡ get_or acts (0 + j) default) where
  long : (v : ℕ) → v < d.variables → get_or d.sizes v 0 ≡ size_of (held d) v
  long v l = sym (size_held d v l)

  own_values_lem : (v : ℕ) → v < d.variables → row_numbers values (32 * v) (get_or d.sizes v 0) ≡ tabulate (size_of (held d) v) (λ (x : ℕ). x)
  unfolding row_numbers
  own_values_lem v l =
      ap (λ (n : ℕ). tabulate n (λ e. get_or values (32 * v + e) 0)) (long v l)
      ∙ tabulate_same (λ e. get_or values (32 * v + e) 0) (λ (x : ℕ). x) (size_of (held d) v) 0 (λ e k. sym (value v e l (omega (arith, long v l, within.few_values v l))))

  own_variables : tabulate d.variables (row_origin numbers d.sizes values)
      ≡ tabulate (variable_count (held d)) (λ v. record { variable = v; values = tabulate (size_of (held d) v) (λ (x : ℕ). x) })
  unfolding row_origin
  own_variables =
      tabulate_same (row_origin numbers d.sizes values) (λ v. record { variable = v; values = tabulate (size_of (held d) v) (λ (x : ℕ). x) }) d.variables none
      (λ v l.
      let first : 0 + v ≡ v = omega arith in
      let own : get_or numbers v 0 ≡ v = sym (rw first at (number v 0 l)) in
      let row = own_values_lem v l in
      λ k. record { variable = own k; values = row k })
      ∙ ap (λ (n : ℕ). tabulate n (λ v. record { variable = v; values = tabulate (size_of (held d) v) (λ (x : ℕ). x) })) (sym (variables_held d))

  own_actions_lem : row_numbers acts 0 d.actions ≡ tabulate (action_count (held d)) (λ (a : ℕ). a)
  unfolding row_numbers
  own_actions_lem =
      tabulate_same (λ i. get_or acts (0 + i) 0) (λ (a : ℕ). a) d.actions 0 (λ j l. sym (act j 0 l))
      ∙ ap (λ (n : ℕ). tabulate n (λ (a : ℕ). a)) (sym (actions_held d))

  own_held : held_origin (origin_arrays d.variables d.actions numbers d.sizes values acts) ≡ own_origin (held d)
  unfolding held_origin own_origin
  own_held = let vs = own_variables in let ns = own_actions_lem in λ k. record { variables = vs k; actions = ns k }

  pub owns : Owns d (origin_arrays d.variables d.actions numbers d.sizes values acts)
  owns =
      record {
        within = record { variables = refl; actions = refl; writable = within };
        values = λ i e l k. omega (arith, within.few_values i l, value i e l (omega (arith, within.few_values i l)));
        origins = own_held;
      }

-- numbers read through other numbers
through : {A B : Type 0} (f : A → B) (g : ℕ → A) (h : ℕ → B) (n : ℕ) (a : A) (b : B) → ((i : ℕ) → i < n → h i ≡ f (g i)) → tabulate n h ≡ map f (tabulate n g)
through f g h n a b e =
    tabulate_is h n (map f (tabulate n g)) b (length-map (tabulate n g) f ∙ tabulate_from_length g 0 n)
    (λ i l.
    e i l
    ∙ ap f (sym (tabulate_entry g n i a l))
    ∙ sym (map_entry f (tabulate n g) i b a (omega (arith, tabulate_from_length g 0 n))))

pub row_through : (row table inner : List ℕ) (base from at count many : ℕ) → ((k : ℕ) → k < count → get_or inner (at + k) 0 < many)
    → ((k : ℕ) → k < count → get_or row (base + k) 0 ≡ get_or table (from + get_or inner (at + k) 0) 0)
    → row_numbers row base count ≡ map (λ x. get_or (row_numbers table from many) x 0) (row_numbers inner at count)
unfolding row_numbers
row_through row table inner base from at count many small e =
    through (λ x. get_or (tabulate many (λ i. get_or table (from + i) 0)) x 0) (λ i. get_or inner (at + i) 0) (λ i. get_or row (base + i) 0) count 0 0
    (λ k l. e k l ∙ sym (tabulate_entry (λ i. get_or table (from + i) 0) many (get_or inner (at + k) 0) 0 (small k l)))

-- two origins composed
module _ (first second : OriginArrays) (numbers ranges values acts : List ℕ)
    (number : (i : ℕ) → i < second.variables → get_or numbers i 0 ≡ get_or first.numbers (get_or second.numbers i 0) 0)
    (range : (i : ℕ) → i < second.variables → get_or ranges i 0 ≡ get_or first.sizes (get_or second.numbers i 0) 0)
    (value : (i d : ℕ) → i < second.variables → d < 32 → get_or values (32 * i + d) 0 ≡ mapped_cell second.values i (get_or first.values (32 * get_or second.numbers i 0 + d) 0))
    (act : (j default : ℕ) → j < second.actions → get_or acts j default ≡ get_or first.originals (get_or second.originals j 0) default)
    (ok : Composable first second) where
  few : (i : ℕ) → i < second.variables → get_or first.sizes (get_or second.numbers i 0) 0 ≤ 32
  few i l = ok.writable.few_values (get_or second.numbers i 0) (ok.variables.known i l)

  value_is : (i d : ℕ) → i < second.variables → d < get_or first.sizes (get_or second.numbers i 0) 0
      → get_or values (32 * i + d) 0 ≡ get_or second.values (32 * i + get_or first.values (32 * get_or second.numbers i 0 + d) 0) 0
  value_is i d l k =
      value i d l (omega (arith, few i l))
      ∙ mapped_known second.values i (get_or first.values (32 * get_or second.numbers i 0 + d) 0) (omega (arith, ok.values i d l k, ok.few_values i l))

  composed_values : (i : ℕ) → i < second.variables
      → row_numbers values (32 * i) (get_or ranges i 0)
      ≡ map (λ x. get_or (row_numbers second.values (32 * i) (get_or second.sizes i 0)) x 0) (row_numbers first.values (32 * get_or second.numbers i 0) (get_or first.sizes (get_or second.numbers i 0) 0))
  composed_values i l =
      let v = get_or second.numbers i 0 in
      ap (row_numbers values (32 * i)) (range i l)
      ∙ row_through values second.values first.values (32 * i) (32 * i) (32 * v) (get_or first.sizes v 0) (get_or second.sizes i 0) (λ d k. ok.values i d l k) (λ d k. value_is i d l k)

  before_is : (v : ℕ) → v < first.variables → origin_at (held_origin first) v ≡ row_origin first.numbers first.sizes first.values v
  unfolding held_origin
  before_is v l = tabulate_entry (row_origin first.numbers first.sizes first.values) first.variables v none l

  composed_place : (i : ℕ) → i < second.variables
      → row_origin numbers ranges values i ≡ composed_variable (held_origin first) (row_origin second.numbers second.sizes second.values i)
  unfolding row_origin composed_variable
  composed_place i l =
      let v = get_or second.numbers i 0 in
      let own = number i l in
      let row = composed_values i l in
      (λ k. record { variable = own k; values = row k })
      ∙ ap
      (λ (o : VariableOrigin). record { variable = o.variable; values = map (λ x. get_or (row_numbers second.values (32 * i) (get_or second.sizes i 0)) x 0) o.values })
      (sym (before_is v (ok.variables.known i l)))

  composed_variables : tabulate second.variables (row_origin numbers ranges values)
      ≡ map (composed_variable (held_origin first)) (tabulate second.variables (row_origin second.numbers second.sizes second.values))
  composed_variables =
      through (composed_variable (held_origin first)) (row_origin second.numbers second.sizes second.values) (row_origin numbers ranges values) second.variables none none composed_place

  composed_actions : row_numbers acts 0 second.actions ≡ originals (held_origin first) (row_numbers second.originals 0 second.actions)
  unfolding held_origin originals
  composed_actions =
      row_through acts first.originals second.originals 0 0 0 second.actions first.actions
      (λ j l. let at : j ≡ 0 + j = omega arith in rw (← at) (ok.actions.known j l))
      (λ j l. let at : j ≡ 0 + j = omega arith in rw (← at) (act j 0 l ∙ ap (λ (n : ℕ). get_or first.originals n 0) (omega arith)))

  pub composes : Composes first second (origin_arrays second.variables second.actions numbers ranges values acts)
  unfolding held_origin composed
  composes =
      let vs = composed_variables in
      let ns = composed_actions in
      record {
        variables = refl;
        actions = refl;
        writable =
            record {
              limits =
                  record {
                    few_variables = omega (arith, ok.variables.few, ok.writable.limits.few_variables);
                    few_actions = omega (arith, ok.actions.few, ok.writable.limits.few_actions);
                  };
              few_values = λ i l. omega (arith, range i l, few i l);
            };
        values = λ sizes small i d l k.
            let inside : d < get_or first.sizes (get_or second.numbers i 0) 0 = omega (arith, range i l) in
            rw (value_is i d l inside) (small i (get_or first.values (32 * get_or second.numbers i 0 + d) 0) l (ok.values i d l inside));
        origins = λ k. record { variables = vs k; actions = ns k };
      }
