-- What covers what, by the cells of the arrays and the table of what could cover what; and the actions whose conditions count.
use Prim.Native.Nat.{ℕ, ◌*◌, ◌<◌}
use mathlib.Core.Path.{◌≡◌, refl, sym, ap, ap₂, ◌∙◌}
use mathlib.Core.Bool.{Bool, true, false, not, ◌&&◌, ◌||◌, and-false}
use mathlib.Core.List.{List}
use native.Mathlib.Omega.{arith}
use lib.Dec.{eqb}
use borrow.Author.Tests.{eqb-true, eqb-false, eq-eqb, ne_eqb}
use Rattle.bits.specs.Sets.{in_words}
use Rattle.files.specs.Below.{any_below, all_below}
use Rattle.files.specs.Dense.{held}
use Rattle.files.specs.declared.arrays.Arrays.{Arrays}
use Rattle.files.specs.Task.{Pair, action_of, action_count, variable_count, value_in}
use Rattle.files.proofs.Logic.{split}
use Rattle.files.proofs.RowValues.{cell_value, row_pairs_value}
use Rattle.files.proofs.Tabulate.{tabulate_entry}
use Rattle.marking.specs.Marks.{Marks}
use Rattle.marking.specs.Links.{tracked}
use Rattle.marking.specs.Covering.{same_effect, could_cover, covers, covered}
use Rattle.marking.specs.Rounds.{marked, next_actions, tracked_marks, counted_actions}
use Rattle.marking.specs.Dense.{is_marked, asked_by, could_cover_at, unlike, kept_alike, covers_at, covered_at, counted_at}
use Rattle.files.proofs.HeldTask.{variables_held, actions_held, cost_held, conditions_held, effect_at, effects_held}
use Rattle.marking.proofs.CoverRows.{could_same}
use Rattle.marking.proofs.RoundLaws.{tracked_marks_at}
use Rattle.files.proofs.Truth.{any_same, all_any, count_none}

-- effects by their cells
same_cells : (x y : ℕ) → same_effect (cell_value x) (cell_value y) ≡ eqb x y
same_cells x y =
    split (eqb x 255)
    (λ e.
    split (eqb y 255)
    (λ q. rw (e, q) (sym (eq-eqb x y (eqb-true x 255 e ∙ sym (eqb-true y 255 q)))))
    (λ q. rw (e, q) (sym (ne_eqb x y (λ z. eqb-false y 255 q (sym z ∙ eqb-true x 255 e))))))
    (λ e.
    split (eqb y 255)
    (λ q. rw (e, q) (sym (ne_eqb x y (λ z. eqb-false x 255 e (z ∙ eqb-true y 255 q)))))
    (λ q. rw (e, q) refl))

module _ (d : Arrays) where
  could_held : (b a : ℕ) → b < d.actions → a < d.actions → could_cover_at d.costs d.conditions d.variables b a ≡ could_cover (action_of (held d) b) (action_of (held d) a)
  could_held b a l k =
      could_same (asked_by d.costs d.conditions d.variables b) (action_of (held d) b) (asked_by d.costs d.conditions d.variables a) (action_of (held d) a)
      (sym (cost_held d b l)) (sym (conditions_held d b l)) (sym (cost_held d a k)) (sym (conditions_held d a k))

  effect_held : (a v : ℕ) → a < d.actions → v < d.variables → value_in (action_of (held d) a).effects v ≡ cell_value (effect_at d a v)
  effect_held a v l h = ap (λ (ps : List Pair). value_in ps v) (effects_held d a l) ∙ row_pairs_value d.effects (64 * a) 0 d.variables v (omega arith) (omega arith)

  module _ (T : ℕ → Bool) (tracks : List ℕ) (track : (v : ℕ) → v < d.variables → is_marked tracks v ≡ T v) where
    same_held : (b a : ℕ) → b < d.actions → a < d.actions → all_below (variable_count (held d)) (λ v. not (T v) || same_effect (value_in (action_of (held d) b).effects v) (value_in (action_of (held d) a).effects v)) ≡ eqb (unlike d.effects tracks (64 * b) (64 * a) d.variables) 0
    unfolding unlike
    same_held b a l k =
        let same : ℕ → Bool = λ v. not (T v) || same_effect (value_in (action_of (held d) b).effects v) (value_in (action_of (held d) a).effects v) in
        ap (λ (n : ℕ). all_below n same) (variables_held d)
        ∙ all_any d.variables same
        ∙ ap not
        (any_same d.variables (λ v. not (same v)) (λ v. is_marked tracks v && not (eqb (effect_at d b v) (effect_at d a v)))
        (λ v h.
        ap (λ (t : Bool). not (not (T v) || t)) (ap₂ same_effect (effect_held b v l h) (effect_held a v k h) ∙ same_cells (effect_at d b v) (effect_at d a v))
        ∙ negated (T v) (eqb (effect_at d b v) (effect_at d a v))
        ∙ ap (λ (t : Bool). t && not (eqb (effect_at d b v) (effect_at d a v))) (sym (track v h))))
        ∙ sym (count_none d.variables (λ v. is_marked tracks v && not (eqb (effect_at d b v) (effect_at d a v))))
      where
        negated : (t s : Bool) → not (not t || s) ≡ t && not s
        negated true s = refl
        negated false s = refl

    module _ (A : ℕ → Bool) (actions pairs : List ℕ) (action : (a : ℕ) → a < d.actions → is_marked actions a ≡ A a) (table : (a b : ℕ) → a < d.actions → b < d.actions → in_words pairs (8 * a) b ≡ could_cover_at d.costs d.conditions d.variables b a) where
      covers_held : (b a : ℕ) → b < d.actions → a < d.actions → covers_at actions pairs d.effects tracks d.variables b a ≡ A b && covers (held d) T (action_of (held d) b) (action_of (held d) a)
      unfolding covers_at kept_alike covers
      covers_held b a l k =
          and_swap (in_words pairs (8 * a) b) (is_marked actions b) (eqb (unlike d.effects tracks (64 * b) (64 * a) d.variables) 0)
          ∙ ap₂ (λ (x y : Bool). x && y) (action b l)
          (ap₂ (λ (x y : Bool). x && y) (table a b k l ∙ could_held b a l k) (sym (same_held b a l k)))
        where
          and_swap : (x y z : Bool) → x && (y && z) ≡ y && (x && z)
          and_swap true y z = refl
          and_swap false y z = sym (and-false y)

      pub covered_held : (a : ℕ) → a < d.actions → covered_at actions pairs d.effects tracks d.variables d.actions a ≡ covered (held d) T A a
      unfolding covered_at covered
      covered_held a k =
          any_same d.actions (λ b. covers_at actions pairs d.effects tracks d.variables b a) (λ b. A b && covers (held d) T (action_of (held d) b) (action_of (held d) a)) (λ b l. covers_held b a l k)
          ∙ sym (ap (λ (n : ℕ). any_below n (λ b. A b && covers (held d) T (action_of (held d) b) (action_of (held d) a))) (actions_held d))

-- the actions whose conditions count in a round
module _ (d : Arrays) (level : ℕ) (m : Marks) (actions pairs tracks : List ℕ)
    (action : (a : ℕ) → a < d.actions → is_marked actions a ≡ marked (next_actions (held d) level m) a)
    (track : (v : ℕ) → v < d.variables → is_marked tracks v ≡ tracked (held d) level m v)
    (table : level ≡ 4 → (a b : ℕ) → a < d.actions → b < d.actions → in_words pairs (8 * a) b ≡ could_cover_at d.costs d.conditions d.variables b a) where
  abbrev pub counts : ℕ → Bool
  counts a = marked (counted_actions (held d) level (tracked_marks (held d) level m) (next_actions (held d) level m)) a

  covering : (a : ℕ) → a < d.actions → eqb level 4 && covered_at actions pairs d.effects tracks d.variables d.actions a ≡ eqb level 4 && covered (held d) (marked (tracked_marks (held d) level m)) (marked (next_actions (held d) level m)) a
  covering a l =
      split (eqb level 4)
      (λ e.
      ap (λ (t : Bool). eqb level 4 && t)
      (covered_held d (marked (tracked_marks (held d) level m)) tracks (λ v h. track v h ∙ sym (tracked_marks_at (held d) level m v (omega (arith, variables_held d)))) (marked (next_actions (held d) level m)) actions pairs action (table (eqb-true level 4 e)) a l))
      (λ e. rw e refl)

  pub counted_now : (counted_before : List ℕ) (a : ℕ) → a < d.actions → counted_at level actions counted_before (covered_at actions pairs d.effects tracks d.variables d.actions a) a ≡ is_marked counted_before a || counts a
  unfolding counted_at counted_actions
  counted_now counted_before a l =
      ap (λ (t : Bool). is_marked counted_before a || t)
      (ap₂ (λ (x y : Bool). x && not y) (action a l) (covering a l)
      ∙ sym (tabulate_entry (λ b. marked (next_actions (held d) level m) b && not (eqb level 4 && covered (held d) (marked (tracked_marks (held d) level m)) (marked (next_actions (held d) level m)) b)) (action_count (held d)) a false (omega (arith, actions_held d))))
