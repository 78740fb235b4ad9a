-- Marks that a round leaves as they are make a closed marking, at every level.
use Prim.Native.Nat.{ℕ, zero, suc, ◌<◌}
use mathlib.Core.Path.{◌≡◌, refl, sym, ap, ◌∙◌}
use mathlib.Core.Bool.{Bool, true, false, ◌&&◌}
use mathlib.Core.List.{List}
use mathlib.Core.Option.{some}
use native.Mathlib.Omega.{arith}
use native.Mathlib.Nat.{not-suc-le-zero}
use lib.Dec.{eqb}
use lib.ListN.{length}
use Rattle.files.specs.Task.{Task, variable_count, action_count, action_of, size_of, value_in}
use Rattle.files.proofs.BelowLaws.{any_below_elim}
use Rattle.files.proofs.Logic.{split, and_split, or_right}
use Rattle.files.proofs.Valid.{Valid}
use Rattle.plans.specs.State.{has_fact}
use Rattle.plans.proofs.FactLaws.{value_fact, fact_valid}
use Rattle.plans.proofs.OrderLaws.{no_dearer_self, no_dearer_trans}
use Rattle.marking.specs.Marks.{Marks, kept, relevant}
use Rattle.marking.specs.Links.{linked, gains_action}
use Rattle.marking.specs.Covering.{covers, covered}
use Rattle.marking.specs.Rounds.{marked, tracked_marks, counted_actions, gains_fact, next_marks}
use Rattle.marking.proofs.Closed.{StandIn, Closed}
use Rattle.marking.proofs.CoveringLaws.{covers_says, covers_fewer}
use Rattle.marking.proofs.LinkLaws.{unthreatened_effect, linked_says, unlinked_intro, tracked_intro, gains_action_intro}
use Rattle.marking.proofs.MarkTables.{marks_of, marks_of_kept, marks_of_relevant, marks_of_inside}
use Rattle.marking.proofs.RoundLaws.{round_actions_here, round_facts, round_marks, round_actions, tracked_marks_at, set_aside, gains_fact_intro}

-- the last round changed nothing, and the goal's facts are relevant
pub record Fixed (t : Task) (level : ℕ) (m : Marks) : Type 0 where
  pub same : next_marks t level m ≡ m
  pub goal_relevant : (v d : ℕ) → has_fact t.goal v d ≡ true → relevant m v d ≡ true

module _ (t : Task) (w : Valid t) (level : ℕ) (m : Marks) (fixed : Fixed t level m) where
  -- the marks are those of the round
  is_round : m ≡ marks_of t (round_actions_here t level m) (round_facts t level m m.actions)
  is_round =
      sym fixed.same ∙ round_marks t level m
      ∙ ap (λ (A : List Bool). marks_of t (round_actions_here t level m) (round_facts t level m A))
      (sym (round_actions t level m) ∙ ap (λ (k : Marks). k.actions) fixed.same)

  gained_kept : (a : ℕ) → a < action_count t → gains_action t level m a ≡ true → kept m a ≡ true
  gained_kept a l g =
      ap (λ (k : Marks). kept k a) is_round
      ∙ marks_of_kept t (round_actions_here t level m) (round_facts t level m m.actions) a l
      ∙ or_right (kept m a) g

  relevant_inside : (v d : ℕ) → relevant m v d ≡ true → (v < variable_count t) × (d < size_of t v)
  relevant_inside v d e =
      marks_of_inside t (round_actions_here t level m) (round_facts t level m m.actions) v d (sym (ap (λ (k : Marks). relevant k v d) is_round) ∙ e)

  gained_relevant : (v d : ℕ) → v < variable_count t → d < size_of t v → gains_fact t level (counted_actions t level (tracked_marks t level m) m.actions) v d ≡ true → relevant m v d ≡ true
  gained_relevant v d l k g =
      ap (λ (k : Marks). relevant k v d) is_round
      ∙ marks_of_relevant t (round_actions_here t level m) (round_facts t level m m.actions) v d l k
      ∙ or_right (relevant m v d) g

  -- the conditions of a kept action that is not set aside are relevant
  asks_relevant : (a : ℕ) → a < action_count t → kept m a ≡ true → set_aside t level m m.actions a ≡ false → (v d : ℕ) → has_fact (action_of t a).conditions v d ≡ true → relevant m v d ≡ true
  asks_relevant a l k counts v d h =
      let place = fact_valid t 0 (action_of t a).conditions v d (w.action a).conditions h in
      gained_relevant v d place.known place.inside (gains_fact_intro t level m m.actions a v d l k counts h)

  tracked_now : ℕ → Bool
  tracked_now v = marked (tracked_marks t level m) v

  is_tracked_lem : (v d : ℕ) → relevant m v d ≡ true → linked t level (kept m) v d ≡ false → tracked_now v ≡ true
  unfolding tracked_now
  is_tracked_lem v d r l =
      let place = relevant_inside v d r in
      tracked_marks_at t level m v place.0 ∙ tracked_intro t level m v d place.1 (unlinked_intro t level m v d r l)

  abbrev StandInFor : ℕ → Type 0
  StandInFor a = StandIn t (kept m) (relevant m) (linked t level (kept m)) a

  -- what covers an action has a stand-in, which serves the action too
  through : (a b : ℕ) → kept m b && covers t tracked_now (action_of t b) (action_of t a) ≡ true → (length (action_of t b).conditions < length (action_of t a).conditions → kept m b ≡ true → StandInFor b) → StandInFor a
  through a b e descend =
      let both = and_split (kept m b) (covers t tracked_now (action_of t b) (action_of t a)) e in
      let c = covers_says t tracked_now (action_of t b) (action_of t a) both.1 in
      let fewer = covers_fewer t tracked_now (action_of t b) (action_of t a) (w.action b).conditions (w.action a).conditions c in
      let k = descend fewer both.0 in
      record {
        to = k.to;
        known = k.known;
        kept = k.kept;
        no_dearer = no_dearer_trans (action_of t k.to) (action_of t b) (action_of t a) k.no_dearer c.no_dearer;
        asks_less = λ s h. k.asks_less s (c.asks_less s h);
        asks_relevant = k.asks_relevant;
        same_effect_lem = λ v d r u. k.same_effect_lem v d r u ∙ c.same_effect_lem v (relevant_inside v d r).0 (is_tracked_lem v d r u);
      }

  coverer : (a : ℕ) → set_aside t level m m.actions a ≡ true → (b : ℕ) × (b < action_count t) × (kept m b && covers t tracked_now (action_of t b) (action_of t a) ≡ true)
  unfolding covered tracked_now
  coverer a e =
      any_below_elim (action_count t) (λ b. kept m b && covers t tracked_now (action_of t b) (action_of t a))
      (and_split (eqb level 4) (covered t (marked (tracked_marks t level m)) (kept m) a) e).1

  -- by descent on the number of conditions
  stand_in_below : (k a : ℕ) → length (action_of t a).conditions < k → a < action_count t → kept m a ≡ true → StandInFor a
  stand_in_below zero a h l e = absurd (not-suc-le-zero h)
  stand_in_below (suc k) a h l e =
      split (set_aside t level m m.actions a)
      (λ aside. let c = coverer a aside in through a c.0 c.2 (λ fewer k'. stand_in_below k c.0 (omega arith) c.1 k'))
      (λ counts.
      record {
        to = a;
        known = l;
        kept = e;
        no_dearer = no_dearer_self (action_of t a);
        asks_less = λ s h. h;
        asks_relevant = asks_relevant a l e counts;
        same_effect_lem = λ v d r u. refl;
      })

  gains : (a v d : ℕ) → a < action_count t → value_in (action_of t a).effects v ≡ some d → relevant m v d ≡ true → linked t level (kept m) v d ≡ false → kept m a ≡ true
  gains a v d l sets r u =
      gained_kept a l
      (gains_action_intro t level m a v d (relevant_inside v d r).1 r (unlinked_intro t level m v d r u)
      (value_fact (action_of t a).effects v d sets))

pub fixed_closed : (t : Task) → Valid t → (level : ℕ) (m : Marks) → Fixed t level m → Closed t (kept m) (relevant m) (linked t level (kept m))
fixed_closed t w level m fixed =
    record {
      goal_relevant = fixed.goal_relevant;
      gains = gains t w level m fixed;
      linked_start = λ v d l. (linked_says t level (kept m) v d l).is_start;
      linked_kept =
          λ a v d e l known k sets.
          let s = linked_says t level (kept m) v d l in
          unthreatened_effect t (kept m) a v e s.safe known k sets ∙ s.is_start;
      stand_in = λ a known k. stand_in_below t w level m fixed (suc (length (action_of t a).conditions)) a (omega arith) known k;
    }
