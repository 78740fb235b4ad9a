-- The translator's format, version 3, field by field: the check of a text, and the task that it states.
use Rattle.std.specs.Prelude.{ℕ, not, List, [], ◌∷◌, eqb, leb, ltb, length}
use Prim.Native.String.{String}
use Rattle.std.proofs.Math.Option.{Option, none}
use Rattle.files.specs.Outcome.{Outcome, done, guard, and_then}
use Rattle.files.specs.Below.{any_of}
use Rattle.files.specs.Records.{size_fits}
use Rattle.files.specs.Task.{Pair, Task, pair}
use Rattle.digits.specs.Decimal.{ascii}
use Rattle.translator.specs.Fields.{word, name, flag, number, signed}
use Rattle.translator.specs.Format.{Fault, unsupported, given_twice, outside_limits, out_of_range, unless, Format, gives, field, bind, repeat, cursor_at, cursor_after, value_after}
use Rattle.translator.specs.Sas.{Declaration, Started, Effect, Operator, Rule, Sas, Separator, blank, line_feed}
use Rattle.translator.specs.Stated.{is_none, sizes_of, variables_of, is_value, is_old_value, stated}

-- nothing is wrong with any value
abbrev pub any : {A : Type 0} → A → Option Fault
any v = none

unfoldable pub says : {A : Type 0} → String → Format A → Format A
says text next = field (word (ascii text)) any (λ v. next)

-- `count` elements of one format
unfoldable pub each : {A : Type 0} → Format A → ℕ → Format (List A)
each item count = repeat {S = Unit {0}} (λ s. item) (λ s a. s) tt count

-- a count of at most so many
unfoldable pub count : ℕ → Format ℕ
count most = field (number line_feed) (λ n. unless (leb n most) outside_limits none) gives

unfoldable pub name_lines : ℕ → Format (List (List ℕ))
name_lines count = each (field name any gives) count

abbrev pub layer_fault : Option ℕ → Option Fault
layer_fault layer = unless (is_none layer) unsupported none

unfoldable pub size : Format ℕ
size = field (number line_feed) (λ n. unless (leb 1 n) outside_limits (unless (leb n 32) outside_limits none)) gives

unfoldable pub declaration : Format Declaration
declaration =
    says "begin_variable\n"
    (field name any (λ name.
    field (signed line_feed) layer_fault (λ layer.
    bind size (λ n.
    bind (name_lines n) (λ values.
    says "end_variable\n"
    (gives (record { name = name; layer = layer; values = values })))))))

-- a pair that nothing refuses, the value ended by a separator
unfoldable pub free_pair : Separator → Format Pair
free_pair separator = field (number blank) any (λ v. field (number separator) any (λ value. gives (pair v value)))

-- mutex groups: read for form
unfoldable pub group : Format (List Pair)
group =
    says "begin_mutex_group\n"
    (field (number line_feed) any (λ n.
    bind (each (free_pair line_feed) n) (λ pairs.
    says "end_mutex_group\n"
    (gives pairs))))

unfoldable pub start : Declaration → Format Started
start d =
    field (number line_feed) (λ n. unless (ltb n (length d.values)) out_of_range none)
    (λ n. gives (record { declared = d; start = n }))

unfoldable pub starts : List Declaration → Format (List Started)
starts [] = gives []
starts (d ∷ ds) = bind (start d) (λ v. bind (starts ds) (λ vs. gives (v ∷ vs)))

-- given before, then in range
abbrev pub variable_fault : List ℕ → List ℕ → ℕ → Option Fault
variable_fault sizes given v = unless (not (any_of (eqb v) given)) given_twice (unless (ltb v (length sizes)) out_of_range none)

abbrev pub value_fault : List ℕ → ℕ → ℕ → Option Fault
value_fault sizes v value = unless (is_value sizes v value) out_of_range none

abbrev pub old_fault : List ℕ → ℕ → Option ℕ → Option Fault
old_fault sizes v old = unless (is_old_value sizes v old) out_of_range none

-- a pair of the goal or of prevail conditions
unfoldable pub condition : List ℕ → List ℕ → Format Pair
condition sizes given =
    field (number blank) (variable_fault sizes given) (λ v.
    field (number line_feed) (value_fault sizes v) (λ value.
    gives (pair v value)))

unfoldable pub conditions : List ℕ → List ℕ → ℕ → Format (List Pair)
conditions sizes given count = repeat (condition sizes) (λ given p. p.variable ∷ given) given count

unfoldable pub effect : List ℕ → List ℕ → Format Effect
effect sizes given =
    field (number blank) (λ n. unless (eqb n 0) unsupported none) (λ n.
    bind (each (free_pair blank) n) (λ conditions.
    field (number blank) (variable_fault sizes given) (λ v.
    field (signed blank) (old_fault sizes v) (λ old.
    field (number line_feed) (value_fault sizes v) (λ new.
    gives (record { conditions = conditions; variable = v; old = old; new = new }))))))

unfoldable pub effects : List ℕ → List ℕ → ℕ → Format (List Effect)
effects sizes given count = repeat (effect sizes) (λ given e. e.variable ∷ given) given count

unfoldable pub operator : List ℕ → Format Operator
operator sizes =
    says "begin_operator\n"
    (field name any (λ name.
    bind (count 64) (λ n.
    bind (conditions sizes [] n) (λ prevail.
    bind (count 64) (λ k.
    bind (effects sizes (variables_of prevail) k) (λ effects.
    field (number line_feed) (λ n. unless (leb n 1000000) outside_limits none) (λ cost.
    says "end_operator\n"
    (gives (record { name = name; prevail = prevail; effects = effects; cost = cost })))))))))

-- an axiom
unfoldable pub rule : Format Rule
rule =
    says "begin_rule\n"
    (field (number line_feed) any (λ n.
    bind (each (free_pair line_feed) n) (λ conditions.
    field (number blank) any (λ v.
    field (number blank) any (λ old.
    field (number line_feed) any (λ new.
    says "end_rule\n"
    (gives (record { conditions = conditions; variable = v; old = old; new = new }))))))))

unfoldable pub text : Format Sas
text =
    says "begin_version\n3\nend_version\nbegin_metric\n"
    (field flag any (λ metric.
    says "end_metric\n"
    (bind (count 64) (λ n.
    bind (each declaration n) (λ declarations.
    field (number line_feed) any (λ g.
    bind (each group g) (λ groups.
    says "begin_state\n"
    (bind (starts declarations) (λ variables.
    says "end_state\nbegin_goal\n"
    (bind (count 64) (λ k.
    bind (conditions (sizes_of declarations) [] k) (λ goal.
    says "end_goal\n"
    (bind (count 512) (λ m.
    bind (each (operator (sizes_of declarations)) m) (λ operators.
    field (number line_feed) (λ r. unless (eqb r 0) unsupported none) (λ r.
    bind (each rule r) (λ rules.
    gives
    (record {
      metric = metric;
      variables = variables;
      groups = groups;
      goal = goal;
      operators = operators;
      rules = rules;
    }))))))))))))))))))

-- a text, and nothing behind it; of any length
unfoldable pub form_at : List ℕ → Outcome
form_at s =
    let end = cursor_after text s (cursor_at 0) in
    and_then end.outcome (guard (leb (length s) end.at) 31 end.at done)

-- a text is limited in size as a file is
unfoldable pub check_text : List ℕ → Outcome
check_text s = size_fits s (form_at s)

-- what a text says, and the task that it states
unfoldable pub sas_of : List ℕ → Sas
sas_of s = value_after text s (cursor_at 0)

unfoldable pub text_task : List ℕ → Task
text_task s = stated (sas_of s)
