-- How the recursive checks go, entry by entry, as a loop over `count` entries wants it: what holds of the definition from
-- entry i on, `whole`, holds again from the next entry on, or is what the loop returns.
use Prim.Native.Nat.{ℕ, suc, ◌+◌, ◌*◌, ◌-◌, ◌≤◌, ◌<◌}
use mathlib.Core.Path.{◌≡◌, refl, sym, ap, ap₂, ◌∙◌}
use mathlib.Core.List.{List}
use native.Mathlib.Omega.{arith}
use lib.Dec.{leb, ltb}
use borrow.Author.Tests.{eq-eqb, ne_eqb}
use Rattle.std.specs.Prelude.{Result}
use Rattle.std.specs.Result.{IsErrAnd}
use Rattle.files.proofs.Countdown.{more_from, none_from}
use Rattle.files.specs.Outcome.{Outcome, done, refusal, refused, outcome_of, guard, and_then}
use Rattle.files.specs.declared.refusals.Refusal.{Refusal}
use Rattle.files.specs.Bytes.{u16_at}
use Rattle.files.specs.Records.{kind_at, record_end, records_end, numbers_at, sign_off_at}
use Rattle.files.specs.TaskFile.{variable_at, variables_at, pair_at, pairs_at, action_at, actions_at}
use Rattle.files.specs.OriginFile.{variable_origin_at, variable_origins_at, action_origins_at, variable_origins_from}
use Rattle.files.proofs.Guards.{goes_le, stops_le, goes_lt, stops_lt, goes_done, stops_up}

module _ (s : List ℕ) (at i count : ℕ) (whole r : Outcome) where
  -- numbers below a limit
  module _ (limit : ℕ) (w : numbers_at limit s (at + 2 * i) (count - i) ≡ whole) where
    numbers_step : i < count → guard (ltb (u16_at s (at + 2 * i)) limit) 5 (at + 2 * i) (numbers_at limit s (at + 2 * i + 2) (count - (i + 1))) ≡ whole
    unfolding numbers_at
    numbers_step h = sym (ap (numbers_at limit s (at + 2 * i)) (more_from i count h)) ∙ w

    pub numbers_none : count ≤ i → r ≡ done → r ≡ whole
    unfolding numbers_at
    numbers_none h e = e ∙ sym (ap (numbers_at limit s (at + 2 * i)) (none_from i count h)) ∙ w

    pub numbers_stop : (n : ℕ) → i < count → n ≡ u16_at s (at + 2 * i) → limit ≤ n → r ≡ refusal 5 (at + 2 * i) → r ≡ whole
    numbers_stop n h e l f = stops_lt _ _ 5 _ _ r n limit e refl l f ∙ numbers_step h

    pub numbers_next : (n : ℕ) → i < count → n ≡ u16_at s (at + 2 * i) → n < limit → numbers_at limit s (at + 2 * (i + 1)) (count - (i + 1)) ≡ whole
    numbers_next n h e l =
        ap (λ (p : ℕ). numbers_at limit s p (count - (i + 1))) (omega arith)
        ∙ goes_lt _ _ 5 _ _ _ n limit e refl l refl
        ∙ numbers_step h

  -- variables
  module _ (w : variables_at s (at + 8 * i) (count - i) ≡ whole) where
    variables_step : i < count → and_then (variable_at s (at + 8 * i)) (variables_at s (at + 8 * i + 8) (count - (i + 1))) ≡ whole
    unfolding variables_at
    variables_step h = sym (ap (variables_at s (at + 8 * i)) (more_from i count h)) ∙ w

    pub variables_none : count ≤ i → r ≡ done → r ≡ whole
    unfolding variables_at
    variables_none h e = e ∙ sym (ap (variables_at s (at + 8 * i)) (none_from i count h)) ∙ w

    pub variables_stop : (o : Result Unit Refusal) (e : Refusal) → i < count → IsErrAnd o (λ x. x ≡ e) → refused e ≡ variable_at s (at + 8 * i) → outcome_of o ≡ whole
    variables_stop o e h up f = stops_up o e _ _ up f ∙ variables_step h

    pub variables_next : i < count → done ≡ variable_at s (at + 8 * i) → variables_at s (at + 8 * (i + 1)) (count - (i + 1)) ≡ whole
    variables_next h e =
        ap (λ (p : ℕ). variables_at s p (count - (i + 1))) (omega arith)
        ∙ goes_done _ _ _ e refl
        ∙ variables_step h

  -- pairs
  module _ (at_least : ℕ) (w : pairs_at s at_least (at + 4 * i) (count - i) ≡ whole) where
    pairs_step : i < count → and_then (pair_at s at_least (at + 4 * i)) (pairs_at s (u16_at s (at + 4 * i) + 1) (at + 4 * i + 4) (count - (i + 1))) ≡ whole
    unfolding pairs_at
    pairs_step h = sym (ap (pairs_at s at_least (at + 4 * i)) (more_from i count h)) ∙ w

    pub pairs_none : count ≤ i → r ≡ done → r ≡ whole
    unfolding pairs_at
    pairs_none h e = e ∙ sym (ap (pairs_at s at_least (at + 4 * i)) (none_from i count h)) ∙ w

    pub pairs_stop : (o : Result Unit Refusal) (e : Refusal) → i < count → IsErrAnd o (λ x. x ≡ e) → refused e ≡ pair_at s at_least (at + 4 * i) → outcome_of o ≡ whole
    pairs_stop o e h up f = stops_up o e _ _ up f ∙ pairs_step h

    pub pairs_next : (variable : ℕ) → i < count → done ≡ pair_at s at_least (at + 4 * i) → variable ≡ u16_at s (at + 4 * i) → pairs_at s (variable + 1) (at + 4 * (i + 1)) (count - (i + 1)) ≡ whole
    pairs_next variable h e f =
        ap₂ (λ (v p : ℕ). pairs_at s (v + 1) p (count - (i + 1))) f (omega arith)
        ∙ goes_done _ _ _ e refl
        ∙ pairs_step h

  -- action origins: they fall, or stop at one that is too large
  module _ (at_least : ℕ) (w : action_origins_at s at_least (at + 2 * i) (count - i) ≡ whole) where
    action_origins_step : i < count
        → guard (leb at_least (u16_at s (at + 2 * i))) 6 (at + 2 * i) (guard (ltb (u16_at s (at + 2 * i)) 512) 5 (at + 2 * i) (action_origins_at s (u16_at s (at + 2 * i) + 1) (at + 2 * i + 2) (count - (i + 1)))) ≡ whole
    unfolding action_origins_at
    action_origins_step h = sym (ap (action_origins_at s at_least (at + 2 * i)) (more_from i count h)) ∙ w

    pub action_origins_none : count ≤ i → r ≡ done → r ≡ whole
    unfolding action_origins_at
    action_origins_none h e = e ∙ sym (ap (action_origins_at s at_least (at + 2 * i)) (none_from i count h)) ∙ w

    pub action_origins_fall : (n : ℕ) → i < count → n ≡ u16_at s (at + 2 * i) → n < at_least → r ≡ refusal 6 (at + 2 * i) → r ≡ whole
    action_origins_fall n h e l f = stops_le _ _ 6 _ _ r at_least n refl e l f ∙ action_origins_step h

    pub action_origins_stop : (n : ℕ) → i < count → n ≡ u16_at s (at + 2 * i) → at_least ≤ n → 512 ≤ n → r ≡ refusal 5 (at + 2 * i) → r ≡ whole
    action_origins_stop n h e l m f =
        goes_le _ _ 6 _ _ r at_least n refl e l (stops_lt _ _ 5 _ _ r n 512 e refl m f) ∙ action_origins_step h

    pub action_origins_next : (n : ℕ) → i < count → n ≡ u16_at s (at + 2 * i) → at_least ≤ n → n < 512 → action_origins_at s (n + 1) (at + 2 * (i + 1)) (count - (i + 1)) ≡ whole
    action_origins_next n h e l m =
        ap₂ (λ (v p : ℕ). action_origins_at s (v + 1) p (count - (i + 1))) e (omega arith)
        ∙ goes_le _ _ 6 _ _ _ at_least n refl e l (goes_lt _ _ 5 _ _ _ n 512 e refl m refl)
        ∙ action_origins_step h

-- actions, of which the next stands at `at`, and the sign-off behind them
module _ (s : List ℕ) (at i count : ℕ) (whole : Outcome) (w : actions_at s at (count - i) ≡ whole) where
  actions_step : i < count → and_then (action_at s at) (actions_at s (record_end s at) (count - (i + 1))) ≡ whole
  unfolding actions_at
  actions_step h = sym (ap (actions_at s at) (more_from i count h)) ∙ w

  pub actions_none : (r : Outcome) → count ≤ i → r ≡ sign_off_at s at → r ≡ whole
  unfolding actions_at
  actions_none r h e = e ∙ sym (ap (actions_at s at) (none_from i count h)) ∙ w

  pub actions_stop : (o : Result Unit Refusal) (e : Refusal) → i < count → IsErrAnd o (λ x. x ≡ e) → refused e ≡ action_at s at → outcome_of o ≡ whole
  actions_stop o e h up f = stops_up o e _ _ up f ∙ actions_step h

  pub actions_next : (next : ℕ) → i < count → done ≡ action_at s at → next ≡ record_end s at → actions_at s next (count - (i + 1)) ≡ whole
  actions_next next h e f = ap (λ (p : ℕ). actions_at s p (count - (i + 1))) f ∙ goes_done _ _ _ e refl ∙ actions_step h

-- variable origins, of which the next stands at `at` and has a variable of at least `at_least`
module _ (s : List ℕ) (at_least at i count : ℕ) (whole : Outcome) (w : variable_origins_at s at_least at (count - i) ≡ whole) where
  variable_origins_step : i < count → and_then (variable_origin_at s at_least at) (variable_origins_at s (u16_at s (at + 4) + 1) (record_end s at) (count - (i + 1))) ≡ whole
  unfolding variable_origins_at
  variable_origins_step h = sym (ap (variable_origins_at s at_least at) (more_from i count h)) ∙ w

  pub variable_origins_none : (r : Outcome) → count ≤ i → r ≡ done → r ≡ whole
  unfolding variable_origins_at
  variable_origins_none r h e = e ∙ sym (ap (variable_origins_at s at_least at) (none_from i count h)) ∙ w

  pub variable_origins_stop : (o : Result Unit Refusal) (e : Refusal) → i < count → IsErrAnd o (λ x. x ≡ e) → refused e ≡ variable_origin_at s at_least at → outcome_of o ≡ whole
  variable_origins_stop o e h up f = stops_up o e _ _ up f ∙ variable_origins_step h

  pub variable_origins_next : (variable next : ℕ) → i < count → done ≡ variable_origin_at s at_least at → variable ≡ u16_at s (at + 4) → next ≡ record_end s at → variable_origins_at s (variable + 1) next (count - (i + 1)) ≡ whole
  variable_origins_next variable next h e f g = ap₂ (λ (v p : ℕ). variable_origins_at s (v + 1) p (count - (i + 1))) f g ∙ goes_done _ _ _ e refl ∙ variable_origins_step h

-- records that are passed, and variable origins in a row that are counted
module _ (s : List ℕ) (at i count : ℕ) where
  pub records_next : (whole next : ℕ) → records_end s at (count - i) ≡ whole → i < count → next ≡ record_end s at → records_end s next (count - (i + 1)) ≡ whole
  unfolding records_end
  records_next whole next w h e = ap (λ (p : ℕ). records_end s p (count - (i + 1))) e ∙ sym (ap (records_end s at) (more_from i count h)) ∙ w

  pub records_none : (whole : ℕ) → records_end s at (count - i) ≡ whole → count ≤ i → at ≡ whole
  unfolding records_end
  records_none whole w h = sym (ap (records_end s at) (none_from i count h)) ∙ w

  module _ (whole : ℕ) (w : i + variable_origins_from s at (count - i) ≡ whole) where
    pub origins_counted : (kind next : ℕ) → i < count → kind ≡ kind_at s at → kind ≡ 6 → next ≡ record_end s at → i + 1 + variable_origins_from s next (count - (i + 1)) ≡ whole
    unfolding variable_origins_from
    origins_counted kind next h k e f =
        let one : variable_origins_from s at (count - i) ≡ suc (variable_origins_from s (record_end s at) (count - (i + 1))) =
        ap (variable_origins_from s at) (more_from i count h) ∙ rw (eq-eqb (kind_at s at) 6 (sym k ∙ e)) refl in
        let rest = ap (λ (p : ℕ). variable_origins_from s p (count - (i + 1))) f in
        omega (arith, w, one, rest)

    pub origins_stop : (kind : ℕ) → i < count → kind ≡ kind_at s at → (kind ≡ 6 → ⊥) → i ≡ whole
    unfolding variable_origins_from
    origins_stop kind h k d =
        let none : variable_origins_from s at (count - i) ≡ 0 =
        ap (variable_origins_from s at) (more_from i count h) ∙ rw (ne_eqb (kind_at s at) 6 (λ q. d (k ∙ q))) refl in
        omega (arith, w, none)

    pub origins_all : count ≤ i → i ≡ whole
    unfolding variable_origins_from
    origins_all h = omega (arith, w, ap (variable_origins_from s at) (none_from i count h))
