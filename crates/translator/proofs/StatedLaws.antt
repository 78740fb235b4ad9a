-- The task that a supported text states means what the text says, and is accepted.
use Prim.Native.Nat.{ℕ, ◌≤◌, ◌<◌}
use mathlib.Core.Path.{◌≡◌, refl, sym, subst}
use mathlib.Core.Bool.{Bool, true, false, cond}
use mathlib.Core.List.{List, [], ◌∷◌, ◌++◌, map}
use native.Mathlib.Omega.{arith}
use lib.ListN.{length, get_or, length-map}
use Rattle.files.specs.Accepted.{valid_pairs, valid_variable, valid_action, accepted_task}
use Rattle.files.specs.Below.{all_of}
use Rattle.files.specs.Task.{Pair, Action, action, variable_count, action_count, action_of}
use Rattle.files.proofs.BelowLaws.{map_entry}
use Rattle.files.proofs.Done.{facts}
use Rattle.files.proofs.Logic.{and_split}
use Rattle.files.proofs.Valid.{all_at}
use Rattle.translator.specs.Sas.{Started, Operator, Sas, printed}
use Rattle.translator.specs.Stated.{sizes_of, declared_in, supported_declaration, supported_operator, supported_start, supported, old_pairs, new_pairs, operator_action, started_variable, textual, in_order, ordered_action, ordered, stated, Means}
use Rattle.translator.proofs.OrderLaws.{Apart, order_valid, order_few, order_shorter}
use Rattle.translator.proofs.OrderedMeans.{ordered_means}
use Rattle.translator.proofs.StatedShorter.{stated_shorter}
use Rattle.translator.proofs.Supported.{Fits, OperatorFits, operator_fits, Supported, text_supported, variables_stated, actions_stated, text_apart, text_inside}

-- what stands behind the last operator
abbrev no_operator : Operator
no_operator = record { name = []; prevail = []; effects = []; cost = 0 }

module _ (x : Sas) (h : supported x ≡ true) where
  abbrev sizes : List ℕ
  sizes = sizes_of (declared_in x)

  fits : Supported x
  fits = text_supported x h

  operator_count : action_count (textual x) ≡ length x.operators
  unfolding textual
  operator_count = length-map x.operators (operator_action x.metric)

  operator_is : (a : ℕ) → a < length x.operators → action_of (textual x) a ≡ operator_action x.metric (get_or x.operators a no_operator)
  unfolding textual
  operator_is a l = map_entry (operator_action x.metric) x.operators a (action 0 [] []) no_operator l

  operator_at : (a : ℕ) → a < length x.operators → OperatorFits sizes (get_or x.operators a no_operator)
  operator_at a l = operator_fits sizes (get_or x.operators a no_operator) (all_at (supported_operator sizes) x.operators no_operator a fits.operators l)

  goal_apart : Apart (variable_count (textual x)) (textual x).goal
  unfolding textual
  goal_apart = text_apart x [] x.goal fits.goal

  conditions_apart : (a : ℕ) → a < length x.operators → Apart (variable_count (textual x)) (action_of (textual x) a).conditions
  unfolding operator_action
  conditions_apart a l =
      let o : Operator = get_or x.operators a no_operator in
      subst (λ (b : Action). Apart (variable_count (textual x)) b.conditions) (sym (operator_is a l))
      (text_apart x [] (o.prevail ++ old_pairs o.effects) (operator_at a l).conditions)

  effects_apart : (a : ℕ) → a < length x.operators → Apart (variable_count (textual x)) (action_of (textual x) a).effects
  unfolding operator_action
  effects_apart a l =
      let o : Operator = get_or x.operators a no_operator in
      subst (λ (b : Action). Apart (variable_count (textual x)) b.effects) (sym (operator_is a l))
      (text_apart x [] (new_pairs o.effects) (operator_at a l).effects)

  pub stated_means : Means (textual x) (stated x)
  unfolding stated
  stated_means =
      ordered_means (textual x) goal_apart
      (λ a l. conditions_apart a (subst (λ (n : ℕ). a < n) operator_count l))
      (λ a l. effects_apart a (subst (λ (n : ℕ). a < n) operator_count l))

-- the parts of an accepted task
variables_valid : (vs : List Started) → all_of supported_declaration (map (λ v. v.declared) vs) ≡ true → all_of supported_start vs ≡ true → all_of valid_variable (map started_variable vs) ≡ true
unfolding supported_declaration supported_start valid_variable started_variable
variables_valid [] d s = refl
variables_valid (v ∷ vs) d s =
    let p = simp facts at d in
    let q = simp facts at s in
    simp facts ((p.0.1.0, (p.0.1.1, q.0)), variables_valid vs p.1 q.1)

cost_valid : (metric : Bool) (cost : ℕ) → cost ≤ 1000000 → cond metric cost 1 ≤ 1000000
cost_valid true cost h = h
cost_valid false cost h = omega arith

module _ (x : Sas) where
  list_valid : (ps : List Pair) → Fits (sizes_of (declared_in x)) [] ps → valid_pairs (stated x) 0 (in_order (variable_count (stated x)) ps) ≡ true
  list_valid ps f = order_valid ps (stated x) 0 0 (variable_count (stated x)) (omega arith) (omega arith) (text_inside x [] ps f)

  operators_valid : variable_count (stated x) ≤ 64 → (os : List Operator) → all_of (supported_operator (sizes_of (declared_in x))) os ≡ true
      → all_of (valid_action (stated x)) (map (ordered_action (variable_count (stated x))) (map (operator_action x.metric) os)) ≡ true
  unfolding valid_action ordered_action operator_action
  operators_valid few [] h = refl
  operators_valid few (o ∷ os) h =
      let q = and_split (supported_operator (sizes_of (declared_in x)) o) (all_of (supported_operator (sizes_of (declared_in x))) os) h in
      let fit = operator_fits (sizes_of (declared_in x)) o q.0 in
      let n : ℕ = variable_count (stated x) in
      let asked = o.prevail ++ old_pairs o.effects in
      let set = new_pairs o.effects in
      simp facts (
        (
          cost_valid x.metric o.cost fit.cost,
          (
            omega (arith, order_few asked 0 n),
            (omega (arith, order_few set 0 n), (list_valid asked fit.conditions, list_valid set fit.effects)),
          ),
        ),
        operators_valid few os q.1,
      )

  variables_known : Supported x → all_of valid_variable (stated x).variables ≡ true
  unfolding stated ordered textual
  variables_known fits = variables_valid x.variables fits.declarations fits.starts

  goal_few : Supported x → length (stated x).goal ≤ 64
  unfolding stated ordered textual
  goal_few fits = omega (arith, order_shorter 0 (variable_count (textual x)) x.goal, fits.goal_few)

  goal_known : Supported x → valid_pairs (stated x) 0 (stated x).goal ≡ true
  unfolding stated ordered textual
  goal_known fits = list_valid x.goal fits.goal

  actions_known : variable_count (stated x) ≤ 64 → Supported x → all_of (valid_action (stated x)) (stated x).actions ≡ true
  unfolding stated ordered textual
  actions_known few fits = operators_valid few x.operators fits.operators

pub stated_accepted : (x : Sas) → supported x ≡ true → length (printed x) ≤ 65536 → accepted_task (stated x) ≡ true
unfolding accepted_task
stated_accepted x h short =
    let fits : Supported x = text_supported x h in
    let variables : length x.variables ≡ variable_count (stated x) = variables_stated x in
    let actions : length x.operators ≡ action_count (stated x) = actions_stated x in
    let few : variable_count (stated x) ≤ 64 = omega (arith, fits.variables_few) in
    simp facts (
      few,
      (
        omega (arith, fits.operators_few),
        (
          variables_known x fits,
          (
            goal_few x fits,
            (goal_known x fits, (actions_known x few fits, omega (arith, stated_shorter x h 1))),
          ),
        ),
      ),
    )
