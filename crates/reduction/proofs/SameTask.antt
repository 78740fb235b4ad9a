-- The test of tasks passes exactly where they are equal.
use mathlib.Core.Path.{◌≡◌, refl}
use mathlib.Core.Bool.{true}
use lib.Dec.{eqb}
use borrow.Author.Tests.{eqb-true, eq-eqb}
use Rattle.files.specs.Below.{same_list}
use Rattle.files.specs.Task.{Pair, Variable, Action, Task}
use Rattle.files.proofs.Logic.{and_split, and_join}
use Rattle.marking.proofs.SameMarks.{same_list_self, same_list_says}
use Rattle.reduction.specs.Turns.{same_pair, same_variable, same_action, same_task}

pair_self : (p : Pair) → same_pair p p ≡ true
unfolding same_pair
pair_self p = and_join (eq-eqb p.variable p.variable refl) (eq-eqb p.value p.value refl)

pair_says : (p q : Pair) → same_pair p q ≡ true → p ≡ q
unfolding same_pair
pair_says p q e =
    let both = and_split (eqb p.variable q.variable) _ e in
    let variables = eqb-true p.variable q.variable both.0 in
    let values = eqb-true p.value q.value both.1 in
    λ i. record { variable = variables i; value = values i }

variable_self : (v : Variable) → same_variable v v ≡ true
unfolding same_variable
variable_self v = and_join (eq-eqb v.size v.size refl) (eq-eqb v.start v.start refl)

variable_says : (v w : Variable) → same_variable v w ≡ true → v ≡ w
unfolding same_variable
variable_says v w e =
    let both = and_split (eqb v.size w.size) _ e in
    let sizes = eqb-true v.size w.size both.0 in
    let starts = eqb-true v.start w.start both.1 in
    λ i. record { size = sizes i; start = starts i }

action_self : (a : Action) → same_action a a ≡ true
unfolding same_action
action_self a =
    and_join (eq-eqb a.cost a.cost refl)
    (and_join (same_list_self same_pair pair_self a.conditions) (same_list_self same_pair pair_self a.effects))

action_says : (a b : Action) → same_action a b ≡ true → a ≡ b
unfolding same_action
action_says a b e =
    let both = and_split (eqb a.cost b.cost) _ e in
    let lists = and_split (same_list same_pair a.conditions b.conditions) _ both.1 in
    let costs = eqb-true a.cost b.cost both.0 in
    let conditions = same_list_says same_pair pair_says a.conditions b.conditions lists.0 in
    let effects = same_list_says same_pair pair_says a.effects b.effects lists.1 in
    λ i. record { cost = costs i; conditions = conditions i; effects = effects i }

pub same_task_equal : (t u : Task) → t ≡ u → same_task t u ≡ true
unfolding same_task
same_task_equal t u e =
    rw e
    (and_join (same_list_self same_variable variable_self u.variables)
    (and_join (same_list_self same_pair pair_self u.goal) (same_list_self same_action action_self u.actions)))

pub same_task_says : (t u : Task) → same_task t u ≡ true → t ≡ u
unfolding same_task
same_task_says t u e =
    let both = and_split (same_list same_variable t.variables u.variables) _ e in
    let rest = and_split (same_list same_pair t.goal u.goal) _ both.1 in
    let variables = same_list_says same_variable variable_says t.variables u.variables both.0 in
    let goals = same_list_says same_pair pair_says t.goal u.goal rest.0 in
    let actions = same_list_says same_action action_says t.actions u.actions rest.1 in
    λ i. record { variables = variables i; goal = goals i; actions = actions i }
