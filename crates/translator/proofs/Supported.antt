-- What a supported text is, as facts about its lists of pairs.
use Prim.Native.Nat.{ℕ, zero, suc, ◌≤◌, ◌<◌}
use mathlib.Core.Path.{◌≡◌, refl, sym, ap, subst, ◌∙◌}
use mathlib.Core.Bool.{Bool, true, false, ◌||◌}
use mathlib.Core.List.{List, [], ◌∷◌, ◌++◌, map}
use mathlib.Core.Logic.{◌⊎◌, inl, inr, ⊎_elim}
use mathlib.Core.Option.{none, some}
use lib.Dec.{eqb}
use lib.ListN.{length, get_or, length-map}
use borrow.Author.Tests.{not-true, eq-eqb}
use Rattle.files.specs.Below.{any_of, all_of}
use Rattle.files.specs.Task.{Pair, pair, variable, variable_count, action_count, size_of, value_in}
use Rattle.files.proofs.Distinct.{split_eq}
use Rattle.files.proofs.Done.{facts}
use Rattle.files.proofs.Logic.{clash, split_option, or_left, or_right}
use Rattle.files.proofs.RowLaws.{value_in_here, value_in_past}
use Rattle.translator.specs.Sas.{Started, Effect, Operator, Sas}
use Rattle.translator.specs.Stated.{sizes_of, declared_in, variables_of, new_variable, is_value, is_old_value, supported_declaration, supported_pair, supported_pairs, supported_effect, supported_effects, supported_operator, supported_start, supported, old_pairs, new_pairs, operator_action, started_variable, textual, ordered_action, ordered, stated}
use Rattle.translator.proofs.OrderLaws.{Apart, none_some, value_cases}

-- pairs of variables with these sizes, each variable once and none of those given before
pub record Fits (sizes given : List ℕ) (ps : List Pair) : Type 0 where
  pub apart : Apart (length sizes) ps
  pub inside : (v x : ℕ) → value_in ps v ≡ some x → x < get_or sizes v 0
  pub free : (v x : ℕ) → value_in ps v ≡ some x → any_of (eqb v) given ≡ false

or_false : (a b : Bool) → a || b ≡ false → b ≡ false
or_false true b e = clash refl e
or_false false b e = e

module _ (sizes : List ℕ) where
  fits_none : (given : List ℕ) → Fits sizes given []
  fits_none given = record { apart = tt; inside = λ v x e. none_some refl e; free = λ v x e. none_some refl e }

  fits_fewer : (v : ℕ) (given : List ℕ) (ps : List Pair) → Fits sizes (v ∷ given) ps → Fits sizes given ps
  fits_fewer v given ps f =
      record { apart = f.apart; inside = f.inside; free = λ w x e. or_false (eqb w v) (any_of (eqb w) given) (f.free w x e) }

  fits_free : (v : ℕ) (given : List ℕ) (ps : List Pair) → Fits sizes given ps → any_of (eqb v) given ≡ true → value_in ps v ≡ none
  fits_free v given ps f h = split_option (value_in ps v) (λ e. e) (λ x e. clash h (f.free v x e))

  fits_more : (given : List ℕ) (p : Pair) (ps : List Pair) → new_variable sizes given p.variable ≡ true → is_value sizes p.variable p.value ≡ true
      → Fits sizes (p.variable ∷ given) ps → Fits sizes given (p ∷ ps)
  unfolding new_variable is_value
  fits_more given p ps new inside f =
      let q = simp facts at new in
      let size = simp facts at inside in
      let before = fits_fewer p.variable given ps f in
      record {
        apart = (q.1, fits_free p.variable (p.variable ∷ given) ps f (or_left (any_of (eqb p.variable) given) (eq-eqb p.variable p.variable refl)), f.apart);
        inside = λ v x e. ⊎_elim (λ h. rw (← h.0, ← h.1) size) (before.inside v x) (value_cases p ps v x e);
        free = λ v x e. ⊎_elim (λ h. rw (← h.0) (not-true (any_of (eqb p.variable) given) q.0)) (before.free v x) (value_cases p ps v x e);
      }

  pub pairs_fit : (given : List ℕ) (ps : List Pair) → supported_pairs sizes given ps ≡ true → Fits sizes given ps
  unfolding supported_pairs supported_pair
  pairs_fit given [] h = fits_none given
  pairs_fit given (p ∷ ps) h =
      let q = simp facts at h in
      fits_more given p ps q.0.0 q.0.1 (pairs_fit (p.variable ∷ given) ps q.1)

  pub old_fits : (given : List ℕ) (es : List Effect) → supported_effects sizes given es ≡ true → Fits sizes given (old_pairs es)
  unfolding supported_effects supported_effect old_pairs is_old_value
  old_fits given [] h = fits_none given
  old_fits given (e ∷ es) h =
      let q = simp facts at h in
      let later = old_fits (e.variable ∷ given) es q.1 in
      split_option e.old
      (λ r. rw r (fits_fewer e.variable given (old_pairs es) later))
      (λ x r.
      rw r (fits_more given (pair e.variable x) (old_pairs es) q.0.1.0 (sym (ap (is_old_value sizes e.variable) r) ∙ q.0.1.1.0) later))

  pub new_fits : (given : List ℕ) (es : List Effect) → supported_effects sizes given es ≡ true → Fits sizes given (new_pairs es)
  unfolding supported_effects supported_effect new_pairs
  new_fits given [] h = fits_none given
  new_fits given (e ∷ es) h =
      let q = simp facts at h in
      fits_more given (pair e.variable e.new) (new_pairs es) q.0.1.0 q.0.1.1.1 (new_fits (e.variable ∷ given) es q.1)

  fits_any : (given : List ℕ) (ps : List Pair) → Fits sizes given ps → Fits sizes [] ps
  fits_any given ps f = record { apart = f.apart; inside = f.inside; free = λ v x e. refl }

-- one list behind another
value_append : (ps qs : List Pair) (v : ℕ) → value_in ps v ≡ none → value_in (ps ++ qs) v ≡ value_in qs v
value_append [] qs v e = refl
value_append (p ∷ ps) qs v e = split_eq p.variable v
    (λ q. none_some e (value_in_here p ps v q))
    (λ q. value_in_past p (ps ++ qs) v q ∙ value_append ps qs v (sym (value_in_past p ps v q) ∙ e))

value_either : (ps qs : List Pair) (v x : ℕ) → value_in (ps ++ qs) v ≡ some x → (value_in ps v ≡ some x) ⊎ (value_in qs v ≡ some x)
value_either [] qs v x e = inr e
value_either (p ∷ ps) qs v x e =
    split_eq p.variable v
    (λ q. inl (value_in_here p ps v q ∙ sym (value_in_here p (ps ++ qs) v q) ∙ e))
    (λ q.
    ⊎_elim
    (λ r. inl (value_in_past p ps v q ∙ r))
    (λ r. inr r)
    (value_either ps qs v x (sym (value_in_past p (ps ++ qs) v q) ∙ e)))

apart_append : (n : ℕ) (ps qs : List Pair) → Apart n ps → Apart n qs → ((v : ℕ) → any_of (eqb v) (variables_of ps) ≡ true → value_in qs v ≡ none) → Apart n (ps ++ qs)
apart_append n [] qs a b h = b
apart_append n (p ∷ ps) qs a b h = (
  a.0,
  value_append ps qs p.variable a.1 ∙ h p.variable (or_left (any_of (eqb p.variable) (variables_of ps)) (eq-eqb p.variable p.variable refl)),
  apart_append n ps qs a.2 b (λ v e. h v (or_right (eqb v p.variable) e)),
)

fits_append : (sizes : List ℕ) (ps qs : List Pair) → Fits sizes [] ps → Fits sizes (variables_of ps) qs → Fits sizes [] (ps ++ qs)
fits_append sizes ps qs f g =
    record {
      apart = apart_append (length sizes) ps qs f.apart g.apart (λ v. fits_free sizes v (variables_of ps) qs g);
      inside = λ v x e. ⊎_elim (f.inside v x) (g.inside v x) (value_either ps qs v x e);
      free = λ v x e. refl;
    }

-- an operator: its conditions and its effects
pub record OperatorFits (sizes : List ℕ) (o : Operator) : Type 0 where
  pub conditions : Fits sizes [] (o.prevail ++ old_pairs o.effects)
  pub effects : Fits sizes [] (new_pairs o.effects)
  pub cost : o.cost ≤ 1000000

pub operator_fits : (sizes : List ℕ) (o : Operator) → supported_operator sizes o ≡ true → OperatorFits sizes o
unfolding supported_operator
operator_fits sizes o h =
    let q = simp facts at h in
    let set : supported_effects sizes (variables_of o.prevail) o.effects ≡ true = q.1.1.1.0 in
    record {
      conditions = fits_append sizes o.prevail (old_pairs o.effects) (pairs_fit sizes [] o.prevail q.1.0) (old_fits sizes (variables_of o.prevail) o.effects set);
      effects = fits_any sizes (variables_of o.prevail) (new_pairs o.effects) (new_fits sizes (variables_of o.prevail) o.effects set);
      cost = q.1.1.1.1;
    }

-- a text
pub record Supported (x : Sas) : Type 0 where
  pub variables_few : length x.variables ≤ 64
  pub declarations : all_of supported_declaration (declared_in x) ≡ true
  pub starts : all_of supported_start x.variables ≡ true
  pub goal_few : length x.goal ≤ 64
  pub goal : Fits (sizes_of (declared_in x)) [] x.goal
  pub operators_few : length x.operators ≤ 512
  pub operators : all_of (supported_operator (sizes_of (declared_in x))) x.operators ≡ true

pub text_supported : (x : Sas) → supported x ≡ true → Supported x
unfolding supported
text_supported x h =
    let q = simp facts at h in
    record {
      variables_few = q.0;
      declarations = q.1.0;
      starts = q.1.1.0;
      goal_few = q.1.1.1.0;
      goal = pairs_fit (sizes_of (declared_in x)) [] x.goal q.1.1.1.1.0;
      operators_few = q.1.1.1.1.1.0;
      operators = q.1.1.1.1.1.1.0;
    }

-- sizes, as the stated task has them
pub sizes_count : (x : Sas) → length (sizes_of (declared_in x)) ≡ variable_count (textual x)
unfolding textual
sizes_count x =
    length-map (declared_in x) (λ d. length d.values)
    ∙ length-map x.variables (λ v. v.declared)
    ∙ sym (length-map x.variables started_variable)

sizes_are : (vs : List Started) (v : ℕ) → get_or (sizes_of (map (λ s. s.declared) vs)) v 0 ≡ (get_or (map started_variable vs) v (variable 0 0)).size
unfolding started_variable
sizes_are [] v = refl
sizes_are (s ∷ vs) zero = refl
sizes_are (s ∷ vs) (suc v) = sizes_are vs v

pub size_is : (x : Sas) (v : ℕ) → get_or (sizes_of (declared_in x)) v 0 ≡ size_of (stated x) v
unfolding stated ordered textual
size_is x v = sizes_are x.variables v

module _ (x : Sas) where
  pub variables_stated : length x.variables ≡ variable_count (stated x)
  unfolding stated ordered textual
  variables_stated = sym (length-map x.variables started_variable)

  pub actions_stated : length x.operators ≡ action_count (stated x)
  unfolding stated ordered textual
  actions_stated =
      sym (length-map (map (operator_action x.metric) x.operators) (ordered_action (variable_count (textual x))) ∙ length-map x.operators (operator_action x.metric))

  -- its lists are on its variables
  pub text_apart : (given : List ℕ) (ps : List Pair) → Fits (sizes_of (declared_in x)) given ps → Apart (variable_count (textual x)) ps
  text_apart given ps f = subst (λ (n : ℕ). Apart n ps) (sizes_count x) f.apart

  pub text_inside : (given : List ℕ) (ps : List Pair) → Fits (sizes_of (declared_in x)) given ps → (v y : ℕ) → value_in ps v ≡ some y → y < size_of (stated x) v
  text_inside given ps f v y e = subst (λ (n : ℕ). y < n) (size_is x v) (f.inside v y e)
