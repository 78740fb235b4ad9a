-- What the test of covering says: the cost, the effects, and fewer conditions, which hold wherever the others do.
use Prim.Native.Nat.{ℕ, ◌<◌}
use mathlib.Core.Path.{◌≡◌, refl, sym, ap, ◌∙◌}
use mathlib.Core.Bool.{Bool, true, false, not, ◌||◌}
use mathlib.Core.List.{List}
use mathlib.Core.Logic.{⊎_elim}
use mathlib.Core.Option.{Option, none, some}
use native.Mathlib.Omega.{arith}
use lib.ListN.{length}
use borrow.Author.Tests.{eqb-true, not-true}
use Rattle.files.specs.Below.{all_below}
use Rattle.files.specs.Task.{Pair, Action, Task, variable_count, value_in}
use Rattle.files.specs.Accepted.{valid_pairs}
use Rattle.files.proofs.BelowLaws.{all_below_elim}
use Rattle.files.proofs.Done.{facts}
use Rattle.files.proofs.Logic.{clash, and_split, or_split}
use Rattle.plans.specs.State.{State, holds, all_hold, has_fact}
use Rattle.plans.proofs.AdmitsLaws.{admits_alike}
use Rattle.plans.proofs.FactLaws.{fact_all, all_facts}
use Rattle.plans.proofs.OrderLaws.{NoDearer}
use Rattle.plans.proofs.StateLaws.{each_all_hold, all_hold_each}
use Rattle.marking.specs.Covering.{same_effect, within, could_cover, covers}
use Rattle.marking.proofs.Parts.{part_shorter}

pub same_effect_says : (x y : Option ℕ) → same_effect x y ≡ true → x ≡ y
same_effect_says none none e = refl
same_effect_says none (some y) e = clash refl (sym e)
same_effect_says (some x) none e = clash refl (sym e)
same_effect_says (some x) (some y) e = ap {B = Option ℕ} some (eqb-true x y e)

pub within_says : (conditions others : List Pair) (v d : ℕ) → within conditions others ≡ true → has_fact conditions v d ≡ true → has_fact others v d ≡ true
unfolding within
within_says conditions others v d e h = fact_all (has_fact others) conditions v d h e

pub within_self : (conditions : List Pair) → within conditions conditions ≡ true
unfolding within
within_self conditions = all_facts (has_fact conditions) conditions (λ v d h. h)

-- a condition that stands in conditions that hold, holds
stands_holds : (others : List Pair) (s : State) → all_hold others s ≡ true → (c : Pair) → has_fact others c.variable c.value ≡ true → holds c s ≡ true
unfolding holds
stands_holds others s e c h =
    let other = all_hold_each others s c.variable c.value e h in
    admits_alike c other.0 (s c.variable) other.1 other.2

pub within_holds : (conditions others : List Pair) (s : State) → within conditions others ≡ true → all_hold others s ≡ true → all_hold conditions s ≡ true
unfolding within
within_holds conditions others s e h =
    each_all_hold (λ c. has_fact others c.variable c.value) conditions s (stands_holds others s h) e

-- b covers a
pub record Covers (t : Task) (tracked : ℕ → Bool) (b a : Action) : Type 0 where
  pub no_dearer : NoDearer b a
  pub same_effect_lem : (v : ℕ) → v < variable_count t → tracked v ≡ true → value_in b.effects v ≡ value_in a.effects v
  pub asks_less : (s : State) → all_hold a.conditions s ≡ true → all_hold b.conditions s ≡ true
  pub among : (v d : ℕ) → has_fact b.conditions v d ≡ true → has_fact a.conditions v d ≡ true
  pub not_all : within a.conditions b.conditions ≡ false

pub covers_says : (t : Task) (tracked : ℕ → Bool) (b a : Action) → covers t tracked b a ≡ true → Covers t tracked b a
unfolding covers could_cover
covers_says t tracked b a e =
    let agrees : ℕ → Bool = λ v. not (tracked v) || same_effect (value_in b.effects v) (value_in a.effects v) in
    let both = and_split (could_cover b a) (all_below (variable_count t) agrees) e in
    let could = (simp facts at both).0 in
    record {
      no_dearer = omega (arith, could.0);
      same_effect_lem =
          λ v l k.
          same_effect_says (value_in b.effects v) (value_in a.effects v)
          (⊎_elim
          (λ untracked. clash k (not-true (tracked v) untracked))
          (λ same. same)
          (or_split (not (tracked v)) _ (all_below_elim (variable_count t) agrees both.1 v l)));
      asks_less = λ s h. within_holds b.conditions a.conditions s could.1.0 h;
      among = λ v d h. within_says b.conditions a.conditions v d could.1.0 h;
      not_all = not-true (within a.conditions b.conditions) could.1.1;
    }

pub covers_fewer : (t : Task) (tracked : ℕ → Bool) (b a : Action) → valid_pairs t 0 b.conditions ≡ true → valid_pairs t 0 a.conditions ≡ true → Covers t tracked b a → length b.conditions < length a.conditions
covers_fewer t tracked b a vb va c =
    ⊎_elim
    (λ shorter. shorter)
    (λ same. clash (ap (within a.conditions) same ∙ within_self a.conditions) c.not_all)
    (part_shorter t 0 0 a.conditions b.conditions va vb c.among)
