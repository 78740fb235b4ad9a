-- How many bytes the parts of a printed text have at least.
use Prim.Native.Nat.{ℕ, suc, ◌+◌, ◌*◌, ◌≤◌}
use mathlib.Core.Path.{◌≡◌, refl}
use mathlib.Core.Bool.{Bool, true, false}
use mathlib.Core.List.{List, [], ◌∷◌, map}
use mathlib.Core.Option.{Option, none, some}
use native.Mathlib.Omega.{arith}
use lib.ListN.{length, length-append}
use Rattle.files.specs.Below.{all_of}
use Rattle.files.specs.Task.{Pair}
use Rattle.files.proofs.Done.{facts}
use Rattle.files.proofs.Logic.{clash, split_option}
use Rattle.digits.specs.Decimal.{ascii, digits}
use Rattle.translator.specs.Sas.{Declaration, Started, Effect, Operator, Separator, blank, line_feed, numeral, ended, ended_option, name_line, joined, counted, printed_pair, printed_declaration, printed_variable, printed_start, printed_effect, printed_group, printed_operator, printed_rule, printed_metric, printed, Sas}
use Rattle.translator.specs.Stated.{is_none, supported_declaration, old_pairs, new_pairs}

-- numbers: a digit and the separator
ended_long : (separator : Separator) (n : ℕ) → 2 ≤ length (ended separator n)
unfolding ended numeral digits
ended_long separator n =
    let e : n + 1 ≡ suc n = omega arith in
    rw e (simp length-append (omega arith))

-- -1 has two
layer_long : (layer : Option ℕ) → is_none layer ≡ true → 3 ≤ length (ended_option line_feed layer)
unfolding ended_option ascii
layer_long none h = omega arith
layer_long (some n) h = clash h refl

name_long : (name : List ℕ) → 1 ≤ length (name_line name)
unfolding name_line
name_long name = simp length-append (omega arith)

metric_long : (metric : Bool) → 2 ≤ length (printed_metric metric)
unfolding printed_metric ascii
metric_long true = omega arith
metric_long false = omega arith

pub pair_long : (p : Pair) → 4 ≤ length (printed_pair p)
unfolding printed_pair
pair_long p = simp length-append (omega (arith, ended_long blank p.variable, ended_long line_feed p.value))

-- a list in which each element has at least as many bytes
pub joined_long : {A : Type 0} (print : A → List ℕ) (least : ℕ) (l : List A) → ((x : A) → least ≤ length (print x)) → length l * least ≤ length (joined print l)
unfolding joined
joined_long print least [] h = omega arith
joined_long print least (x ∷ l) h = simp length-append (omega (arith, h x, joined_long print least l h))

counted_long : {A : Type 0} (print : A → List ℕ) (l : List A) → 2 + length (joined print l) ≤ length (counted print l)
unfolding counted
counted_long print l = simp length-append (omega (arith, ended_long line_feed (length l)))

-- an effect: a pair for the new value, and one for the old value, if any
effects_long_lem : (es : List Effect) → 4 * length (old_pairs es) + 4 * length (new_pairs es) ≤ length (joined printed_effect es)
unfolding joined printed_effect old_pairs new_pairs ended_option ascii
effects_long_lem [] = omega arith
effects_long_lem (e ∷ es) =
    let later : 4 * length (old_pairs es) + 4 * length (new_pairs es) ≤ length (joined printed_effect es) = effects_long_lem es in
    let count = ended_long blank (length e.conditions) in
    let on = ended_long blank e.variable in
    let new = ended_long line_feed e.new in
    split_option e.old
    (λ r. rw r (simp length-append (omega (arith, later, count, on, new))))
    (λ x r. rw r (simp length-append (omega (arith, later, count, on, new, ended_long blank x))))

pub operator_long : (o : Operator) → 35 + 4 * length o.prevail + 4 * length (old_pairs o.effects) + 4 * length (new_pairs o.effects) ≤ length (printed_operator o)
unfolding printed_operator ascii
operator_long o =
    simp length-append
    (omega (
      arith,
      name_long o.name,
      counted_long printed_pair o.prevail,
      joined_long printed_pair 4 o.prevail pair_long,
      counted_long printed_effect o.effects,
      effects_long_lem o.effects,
      ended_long line_feed o.cost,
    ))

declaration_long : (d : Declaration) → supported_declaration d ≡ true → 35 ≤ length (printed_declaration d)
unfolding printed_declaration supported_declaration ascii
declaration_long d h =
    let q = simp facts at h in
    simp length-append
    (omega (
      arith,
      q.1.0,
      name_long d.name,
      layer_long d.layer q.0,
      counted_long name_line d.values,
      joined_long name_line 1 d.values name_long,
    ))

-- a variable, with its start
pub variables_long : (vs : List Started) → all_of supported_declaration (map (λ v. v.declared) vs) ≡ true
    → 37 * length vs ≤ length (joined printed_variable vs) + length (joined printed_start vs)
unfolding joined printed_variable printed_start
variables_long [] h = omega arith
variables_long (v ∷ vs) h =
    let q = simp facts at h in
    simp length-append (omega (arith, declaration_long v.declared q.0, ended_long line_feed v.start, variables_long vs q.1))

-- a text: its words, its counts, and what is counted
pub text_long : (x : Sas)
    → 106 + length (joined printed_variable x.variables) + length (joined printed_start x.variables) + length (joined printed_pair x.goal) + length (joined printed_operator x.operators)
    ≤ length (printed x)
unfolding printed ascii
text_long x =
    simp length-append
    (omega (
      arith,
      metric_long x.metric,
      counted_long printed_variable x.variables,
      counted_long printed_group x.groups,
      counted_long printed_pair x.goal,
      counted_long printed_operator x.operators,
      counted_long printed_rule x.rules,
    ))
