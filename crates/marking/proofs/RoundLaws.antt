-- The first marks and the marks after a round, as laid out by a test of actions and a test of facts.
use Prim.Native.Nat.{ℕ, ◌<◌}
use mathlib.Core.Path.{◌≡◌, refl, ap, ◌∙◌}
use mathlib.Core.Bool.{Bool, true, false, not, ◌&&◌, ◌||◌}
use mathlib.Core.List.{List}
use lib.Dec.{eqb}
use Rattle.files.specs.Task.{Pair, Task, variable_count, action_count, action_of, mentions}
use Rattle.files.proofs.BelowLaws.{any_below_intro}
use Rattle.files.proofs.Logic.{cond_case, and_join}
use Rattle.files.proofs.Tabulate.{tabulate_entry}
use Rattle.plans.specs.State.{has_fact}
use Rattle.plans.proofs.FactLaws.{fact_mentions}
use Rattle.marking.specs.Marks.{Marks, kept, relevant, names, first_marks}
use Rattle.marking.specs.Links.{tracked, gains_action}
use Rattle.marking.specs.Covering.{covered}
use Rattle.marking.specs.Rounds.{marked, next_actions, tracked_marks, counted_actions, gains_fact, next_facts, next_marks}
use Rattle.marking.proofs.MarkTables.{marks_of}

-- a fact of conditions or of a goal is named by them, at every level
pub fact_names : (level : ℕ) (conditions : List Pair) (v d : ℕ) → has_fact conditions v d ≡ true → names level conditions v d ≡ true
unfolding names
fact_names level conditions v d h =
    cond_case (λ (b : Bool). b ≡ true) (eqb level 1) (mentions conditions v) (has_fact conditions v d)
    (λ first. fact_mentions conditions v d h)
    (λ other. h)

module _ (t : Task) (level : ℕ) where
  pub first_marks_lem : first_marks t level ≡ marks_of t (λ a. false) (names level t.goal)
  unfolding first_marks marks_of
  first_marks_lem = refl

  module _ (m : Marks) where
    abbrev pub round_actions_here : ℕ → Bool
    round_actions_here a = kept m a || gains_action t level m a

    -- by the actions after the round
    abbrev pub round_facts : List Bool → ℕ → ℕ → Bool
    round_facts A v d = relevant m v d || gains_fact t level (counted_actions t level (tracked_marks t level m) A) v d

    pub round_marks : next_marks t level m ≡ marks_of t round_actions_here (round_facts (next_actions t level m))
    unfolding next_marks next_actions next_facts marks_of
    round_marks = refl

    pub round_actions : (next_marks t level m).actions ≡ next_actions t level m
    unfolding next_marks
    round_actions = refl

    pub tracked_marks_at : (v : ℕ) → v < variable_count t → marked (tracked_marks t level m) v ≡ tracked t level m v
    unfolding tracked_marks
    tracked_marks_at v l = tabulate_entry (tracked t level m) (variable_count t) v false l

    -- an action's conditions count unless it is covered at level 4
    abbrev pub set_aside : List Bool → ℕ → Bool
    set_aside A a = eqb level 4 && covered t (marked (tracked_marks t level m)) (marked A) a

    pub gains_fact_intro : (A : List Bool) (a v d : ℕ) → a < action_count t → marked A a ≡ true → set_aside A a ≡ false → has_fact (action_of t a).conditions v d ≡ true → gains_fact t level (counted_actions t level (tracked_marks t level m) A) v d ≡ true
    unfolding gains_fact counted_actions
    gains_fact_intro A a v d l k counts h =
        any_below_intro (action_count t) (λ b. marked (counted_actions t level (tracked_marks t level m) A) b && names level (action_of t b).conditions v d) a l
        (and_join
        (tabulate_entry (λ b. marked A b && not (set_aside A b)) (action_count t) a false l ∙ and_join k (ap not counts))
        (fact_names level (action_of t a).conditions v d h))
