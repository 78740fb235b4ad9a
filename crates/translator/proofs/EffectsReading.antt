-- The loop over the effects of an operator: what is left to be read and stored makes of both rows what all effects make of them.
use Prim.Native.Nat.{ℕ, ◌+◌, ◌-◌, ◌≤◌, ◌<◌}
use mathlib.Core.Path.{◌≡◌, refl, sym, ap, subst, ◌∙◌}
use mathlib.Core.Bool.{Bool, true, false, ◌&&◌}
use mathlib.Core.List.{List, [], ◌∷◌}
use mathlib.Core.Option.{Option, none, some}
use native.Mathlib.Omega.{arith}
use lib.ListN.{length}
use Rattle.files.specs.Rows.{cleared, filled}
use Rattle.translator.specs.Cursors.{Cursor}
use Rattle.translator.specs.ListContracts.{is_new, Given}
use Rattle.translator.specs.OperatorContracts.{EffectStored, EffectsStored, EffectsRead}
use Rattle.translator.specs.Format.{repeat, cursor_refused, is_open, cursor_after, value_after}
use Rattle.translator.specs.Sas.{Effect}
use Rattle.translator.specs.Stated.{old_pairs, new_pairs}
use Rattle.translator.specs.Text.{effect, effects}
use Rattle.files.proofs.Logic.{clash}
use Rattle.files.specs.declared.refusals.Refusal.{Refusal}
use Rattle.files.specs.Outcome.{refused}
use Rattle.translator.proofs.Calls.{closed, after_shut}
use Rattle.translator.proofs.ConditionsReading.{cleared_given}
use Rattle.translator.proofs.ReadingLaws.{after_refused, open_before}
use Rattle.translator.proofs.RepeatReading.{repeat_next, repeat_others}

-- a row of conditions beside a row of effects that is cleared
given_beside : (conditions blank : List ℕ) (base : ℕ) (given : List ℕ) → Given blank blank base [] → Given conditions conditions base given → Given conditions blank base given
given_beside conditions blank base given h k v = ap (λ (b : Bool). is_new conditions base v && b) (once (is_new blank base v) (h v)) ∙ sym (twice (is_new conditions base v)) ∙ k v
  where
    once : (b : Bool) → b && b ≡ true → b ≡ true
    once true e = refl
    once false e = e

    twice : (b : Bool) → b && b ≡ b && true
    twice true = refl
    twice false = refl

filled_old : (row : List ℕ) (base : ℕ) (e : Effect) (es : List Effect) → filled (filled row base (old_pairs (e ∷ []))) base (old_pairs es) ≡ filled row base (old_pairs (e ∷ es))
unfolding old_pairs filled
filled_old row base e es = go e.old refl
  where
    go : (o : Option ℕ) → e.old ≡ o → filled (filled row base (old_pairs (e ∷ []))) base (old_pairs es) ≡ filled row base (old_pairs (e ∷ es))
    go none q = rw q refl
    go (some x) q = rw q refl

filled_new : (row : List ℕ) (base : ℕ) (e : Effect) (es : List Effect) → filled (filled row base (new_pairs (e ∷ []))) base (new_pairs es) ≡ filled row base (new_pairs (e ∷ es))
unfolding new_pairs filled
filled_new row base e es = refl

-- what is left of the effects, with the variables that were given so far
pub record EffectsLeft (s sizes first : List ℕ) (base : ℕ) (c : Cursor) (count : ℕ) (conditions₀ effects₀ : List ℕ) (here : Cursor) (left : ℕ) (conditions_now effects_now : List ℕ) : Type 0 where
  pub given : List ℕ
  pub cursor : cursor_after (effects sizes given left) s here ≡ cursor_after (effects sizes first count) s c
  pub cells : is_open here ≡ true → Given conditions_now effects_now base given
  pub conditions_rest : is_open (cursor_after (effects sizes first count) s c) ≡ true
      → filled conditions_now base (old_pairs (value_after (effects sizes given left) s here)) ≡ filled conditions₀ base (old_pairs (value_after (effects sizes first count) s c))
  pub effects_rest : is_open (cursor_after (effects sizes first count) s c) ≡ true
      → filled effects_now base (new_pairs (value_after (effects sizes given left) s here)) ≡ filled effects₀ base (new_pairs (value_after (effects sizes first count) s c))

pub effects_start : (s sizes first : List ℕ) (base : ℕ) (c : Cursor) (count : ℕ) (conditions₀ before effects₀ : List ℕ) → base + 64 ≤ length before → effects₀ ≡ cleared before base 64
    → (is_open c ≡ true → Given conditions₀ conditions₀ base first) → EffectsLeft s sizes first base c count conditions₀ effects₀ c count conditions₀ effects₀
effects_start s sizes first base c count conditions₀ before effects₀ h e k =
    record {
      given = first;
      cursor = refl;
      cells = λ o. given_beside conditions₀ effects₀ base first (rw e (cleared_given before base h)) (k o);
      conditions_rest = λ o. refl;
      effects_rest = λ o. refl;
    }

module _ (s sizes first : List ℕ) (base : ℕ) (c : Cursor) (count : ℕ) (conditions₀ effects₀ : List ℕ) (here : Cursor) (left : ℕ) (conditions_now effects_now : List ℕ)
    (inv : EffectsLeft s sizes first base c count conditions₀ effects₀ here left conditions_now effects_now) where
  pub effects_next : (next : Cursor) (conditions_then effects_then : List ℕ) → 0 < left
      → ((given : List ℕ) → (is_open here ≡ true → Given conditions_now effects_now base given) → EffectStored s here sizes given conditions_now effects_now base next conditions_then effects_then)
      → EffectsLeft s sizes first base c count conditions₀ effects₀ next (left - 1) conditions_then effects_then
  unfolding effects
  effects_next next conditions_then effects_then h q =
      let given : List ℕ = inv.given in
      let e : Effect = value_after (effect sizes given) s here in
      let one : EffectStored s here sizes given conditions_now effects_now base next conditions_then effects_then = q given inv.cells in
      let moved : cursor_after (effects sizes (e.variable ∷ given) (left - 1)) s next ≡ cursor_after (effects sizes first count) s c =
      repeat_next (effect sizes) (λ given e. e.variable ∷ given) s given left here next h one.cursor ∙ inv.cursor in
      let es : List Effect = value_after (effects sizes (e.variable ∷ given) (left - 1)) s next in
      let others : value_after (effects sizes given left) s here ≡ e ∷ es = repeat_others (effect sizes) (λ given e. e.variable ∷ given) s given left here next h one.cursor in
      record {
        given = e.variable ∷ given;
        cursor = moved;
        cells = one.gives;
        conditions_rest = λ o.
            ap (λ (x : List ℕ). filled x base (old_pairs es)) (one.conditions_row (open_before (effects sizes (e.variable ∷ given) (left - 1)) s next (ap is_open moved ∙ o)))
            ∙ filled_old conditions_now base e es
            ∙ sym (ap (λ (l : List Effect). filled conditions_now base (old_pairs l)) others)
            ∙ inv.conditions_rest o;
        effects_rest = λ o.
            ap (λ (x : List ℕ). filled x base (new_pairs es)) (one.effects_row (open_before (effects sizes (e.variable ∷ given) (left - 1)) s next (ap is_open moved ∙ o)))
            ∙ filled_new effects_now base e es
            ∙ sym (ap (λ (l : List Effect). filled effects_now base (new_pairs l)) others)
            ∙ inv.effects_rest o;
      }

  pub effects_stop : is_open here ≡ false → here ≡ cursor_after (effects sizes first count) s c
  effects_stop d = sym (after_refused (effects sizes inv.given left) s here d) ∙ inv.cursor

  pub effects_end : (before : List ℕ) → left ≤ 0 → effects₀ ≡ cleared before base 64 → EffectsStored s c count sizes first conditions₀ before base here conditions_now effects_now
  unfolding effects repeat cursor_after value_after old_pairs new_pairs filled
  effects_end before h g =
      let none_left : left ≡ 0 = omega arith in
      let moved : here ≡ cursor_after (effects sizes first count) s c = sym (ap (λ (n : ℕ). cursor_after (effects sizes inv.given n) s here) none_left) ∙ inv.cursor in
      let empty : value_after (effects sizes inv.given left) s here ≡ [] = ap (λ (n : ℕ). value_after (effects sizes inv.given n) s here) none_left in
      record {
        cursor = moved;
        conditions_row = λ o. sym (ap (λ (l : List Effect). filled conditions_now base (old_pairs l)) empty) ∙ inv.conditions_rest (sym (ap is_open moved) ∙ o);
        effects_row = λ o.
            sym (ap (λ (l : List Effect). filled effects_now base (new_pairs l)) empty)
            ∙ inv.effects_rest (sym (ap is_open moved) ∙ o)
            ∙ ap (λ (l : List ℕ). filled l base (new_pairs (value_after (effects sizes first count) s c))) g;
      }

-- a loop that counts up
pub effects_from : (s sizes first : List ℕ) (base : ℕ) (c : Cursor) (count : ℕ) (conditions₀ before effects₀ : List ℕ) → base + 64 ≤ length before → effects₀ ≡ cleared before base 64
    → (is_open c ≡ true → Given conditions₀ conditions₀ base first) → EffectsLeft s sizes first base c count conditions₀ effects₀ c (count - 0) conditions₀ effects₀
effects_from s sizes first base c count conditions₀ before effects₀ h e rows =
    let all : count ≡ count - 0 = omega arith in
    subst (λ (n : ℕ). EffectsLeft s sizes first base c count conditions₀ effects₀ c n conditions₀ effects₀) all (effects_start s sizes first base c count conditions₀ before effects₀ h e rows)

module _ (s sizes first : List ℕ) (base : ℕ) (c : Cursor) (count : ℕ) (conditions₀ effects₀ : List ℕ) (here : Cursor) (i : ℕ) (conditions_now effects_now : List ℕ)
    (inv : EffectsLeft s sizes first base c count conditions₀ effects₀ here (count - i) conditions_now effects_now) where
  pub effects_on : (next : Cursor) (conditions_then effects_then : List ℕ) → i < count
      → ((given : List ℕ) → (is_open here ≡ true → Given conditions_now effects_now base given) → EffectStored s here sizes given conditions_now effects_now base next conditions_then effects_then)
      → EffectsLeft s sizes first base c count conditions₀ effects₀ next (count - (i + 1)) conditions_then effects_then
  effects_on next conditions_then effects_then h q =
      let further : count - i - 1 ≡ count - (i + 1) = omega arith in
      subst (λ (n : ℕ). EffectsLeft s sizes first base c count conditions₀ effects₀ next n conditions_then effects_then) further
      (effects_next s sizes first base c count conditions₀ effects₀ here (count - i) conditions_now effects_now inv next conditions_then effects_then (omega arith) q)

pub effects_up : (s : List ℕ) (c : Cursor) (count : ℕ) (sizes first conditions effects_before : List ℕ) (base : ℕ) (r : Cursor) (conditions_now effects_now : List ℕ) → r ≡ cursor_after (effects sizes first count) s c → is_open r ≡ false
    → EffectsStored s c count sizes first conditions effects_before base r conditions_now effects_now
effects_up s c count sizes first conditions effects_before base r conditions_now effects_now e d = record { cursor = e; conditions_row = λ o. clash o d; effects_row = λ o. clash o d }

pub effects_shut : (s : List ℕ) (e : Refusal) (count : ℕ) (sizes conditions effects_before : List ℕ) (base : ℕ) (conditions_now effects_now : List ℕ)
    → EffectsRead s (cursor_refused (refused e)) count sizes conditions effects_before base (cursor_refused (refused e)) conditions_now effects_now
effects_shut s e count sizes conditions effects_before base conditions_now effects_now =
    record { is = λ first rows. effects_up s _ count sizes first conditions effects_before base _ conditions_now effects_now (after_shut s e (effects sizes first count)) (closed e) }
