-- The task that a text states: which texts are supported, the task in the text's order, and with rising lists.
use Rattle.std.specs.Prelude.{ℕ, zero, suc, ◌+◌, ◌<◌, ◌≡◌, Bool, true, false, not, cond, ◌&&◌, List, [], ◌∷◌, ◌++◌, map, eqb, leb, ltb, length, get_or}
use Rattle.std.proofs.Math.Option.{Option, none, some}
use Rattle.files.specs.Below.{any_of, all_of}
use Rattle.files.specs.Task.{Pair, Variable, Action, Task, pair, variable, action, variable_count, action_count, action_of, value_in}
use Rattle.plans.specs.Plan.{IsPlan, total_of}
use Rattle.plans.specs.State.{State, all_hold, applicable, apply}
use Rattle.translator.specs.Sas.{Declaration, Started, Effect, Operator, Sas}

-- domain sizes, one a variable
abbrev pub sizes_of : List Declaration → List ℕ
sizes_of declarations = map (λ d. length d.values) declarations

abbrev pub declared_in : Sas → List Declaration
declared_in x = map (λ v. v.declared) x.variables

abbrev pub variables_of : List Pair → List ℕ
variables_of pairs = map (λ p. p.variable) pairs

-- a variable that is not given before, and is one of the task
unfoldable pub new_variable : List ℕ → List ℕ → ℕ → Bool
new_variable sizes given v = not (any_of (eqb v) given) && ltb v (length sizes)

-- a value of the variable
unfoldable pub is_value : List ℕ → ℕ → ℕ → Bool
is_value sizes v value = ltb value (get_or sizes v 0)

-- or none
unfoldable pub is_old_value : List ℕ → ℕ → Option ℕ → Bool
is_old_value sizes v none = true
is_old_value sizes v (some value) = is_value sizes v value

abbrev pub is_none : Option ℕ → Bool
is_none none = true
is_none (some n) = false

unfoldable pub supported_declaration : Declaration → Bool
supported_declaration d = is_none d.layer && (leb 1 (length d.values) && leb (length d.values) 32)

unfoldable pub supported_pair : List ℕ → List ℕ → Pair → Bool
supported_pair sizes given p = new_variable sizes given p.variable && is_value sizes p.variable p.value

-- no variable is given twice in a list
unfoldable pub supported_pairs : List ℕ → List ℕ → List Pair → Bool
supported_pairs sizes given [] = true
supported_pairs sizes given (p ∷ ps) = supported_pair sizes given p && supported_pairs sizes (p.variable ∷ given) ps

unfoldable pub supported_effect : List ℕ → List ℕ → Effect → Bool
supported_effect sizes given e =
    eqb (length e.conditions) 0
    && (new_variable sizes given e.variable && (is_old_value sizes e.variable e.old && is_value sizes e.variable e.new))

unfoldable pub supported_effects : List ℕ → List ℕ → List Effect → Bool
supported_effects sizes given [] = true
supported_effects sizes given (e ∷ es) = supported_effect sizes given e && supported_effects sizes (e.variable ∷ given) es

-- nor in one operator
unfoldable pub supported_operator : List ℕ → Operator → Bool
supported_operator sizes o =
    leb (length o.prevail) 64
    && (supported_pairs sizes [] o.prevail
    && (leb (length o.effects) 64
    && (supported_effects sizes (variables_of o.prevail) o.effects && leb o.cost 1000000)))

unfoldable pub supported_start : Started → Bool
supported_start v = ltb v.start (length v.declared.values)

-- within the limits of a task, without axioms and effect conditions
unfoldable pub supported : Sas → Bool
supported x =
    leb (length x.variables) 64
    && (all_of supported_declaration (declared_in x)
    && (all_of supported_start x.variables
    && (leb (length x.goal) 64
    && (supported_pairs (sizes_of (declared_in x)) [] x.goal
    && (leb (length x.operators) 512
    && (all_of (supported_operator (sizes_of (declared_in x))) x.operators
    && eqb (length x.rules) 0))))))

-- an old value is a condition
unfoldable pub old_pairs : List Effect → List Pair
old_pairs [] = []
old_pairs (e ∷ es) = old e.old (old_pairs es)
  where
    old : Option ℕ → List Pair → List Pair
    old none rest = rest
    old (some value) rest = pair e.variable value ∷ rest

unfoldable pub new_pairs : List Effect → List Pair
new_pairs es = map (λ e. pair e.variable e.new) es

-- metric 1: costs as written; 0: every operator costs 1
unfoldable pub operator_action : Bool → Operator → Action
operator_action metric o = action (cond metric o.cost 1) (o.prevail ++ old_pairs o.effects) (new_pairs o.effects)

unfoldable pub started_variable : Started → Variable
started_variable v = variable (length v.declared.values) v.start

-- the task, with its lists of pairs in the text's order
unfoldable pub textual : Sas → Task
textual x =
    record {
      variables = map started_variable x.variables;
      goal = x.goal;
      actions = map (operator_action x.metric) x.operators;
    }

abbrev pub pair_of : ℕ → Option ℕ → List Pair
pair_of v none = []
pair_of v (some value) = pair v value ∷ []

-- the pairs on `count` variables from v on, by rising variable
unfoldable pub in_order_from : List Pair → ℕ → ℕ → List Pair
in_order_from pairs v zero = []
in_order_from pairs v (suc count) = pair_of v (value_in pairs v) ++ in_order_from pairs (v + 1) count

abbrev pub in_order : ℕ → List Pair → List Pair
in_order variables pairs = in_order_from pairs 0 variables

unfoldable pub ordered_action : ℕ → Action → Action
ordered_action variables a = action a.cost (in_order variables a.conditions) (in_order variables a.effects)

-- the same task, with rising lists
unfoldable pub ordered : Task → Task
ordered t =
    record {
      variables = t.variables;
      goal = in_order (variable_count t) t.goal;
      actions = map (ordered_action (variable_count t)) t.actions;
    }

-- the task that a text states
unfoldable pub stated : Sas → Task
stated x = ordered (textual x)

-- a task means what another means: the same variables, start and goal; each action is applicable in the same states, leads to
-- the same state and costs the same
pub record Means (t u : Task) : Type 0 where
  pub variables : t.variables ≡ u.variables
  pub goal : (s : State) → all_hold t.goal s ≡ all_hold u.goal s
  pub actions : action_count t ≡ action_count u
  pub applies : (a : ℕ) → a < action_count t → (s : State) → applicable (action_of t a) s ≡ applicable (action_of u a) s
  pub leads : (a : ℕ) → a < action_count t → (s : State) (v : ℕ) → apply (action_of t a) s v ≡ apply (action_of u a) s v
  pub costs : (a : ℕ) → (action_of t a).cost ≡ (action_of u a).cost
  -- so the plans of one are those of the other, at the same cost
  pub plans : (plan : List ℕ) → IsPlan t plan → IsPlan u plan
  pub back : (plan : List ℕ) → IsPlan u plan → IsPlan t plan
  pub total : (plan : List ℕ) → total_of t plan ≡ total_of u plan
