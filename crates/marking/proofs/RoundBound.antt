-- The rounds come to rest within facts plus actions plus 1: a round that changes something adds a mark.
use Prim.Native.Nat.{ℕ, zero, suc, ◌+◌, ◌≤◌, ◌<◌}
use mathlib.Core.Path.{◌≡◌, sym, ap, ◌∙◌}
use mathlib.Core.Bool.{true, false}
use native.Mathlib.Omega.{arith}
use Rattle.files.specs.Task.{Task, action_count, fact_count}
use Rattle.files.proofs.Logic.{clash, cond_case, split_le, or_left}
use Rattle.files.proofs.Valid.{Valid}
use Rattle.plans.specs.State.{has_fact}
use Rattle.plans.proofs.FactLaws.{fact_valid}
use Rattle.marking.specs.Marks.{Marks, kept, relevant, names, first_marks, same_marks}
use Rattle.marking.specs.Rounds.{next_actions, next_marks, Marking, mark_from, marking}
use Rattle.marking.proofs.FixedPoint.{Fixed}
use Rattle.marking.proofs.MarkCount.{mark_count, mark_count_most, Among, among_same}
use Rattle.marking.proofs.MarkTables.{Shaped, marks_of_shaped, marks_of_kept, marks_of_relevant}
use Rattle.marking.proofs.RoundLaws.{fact_names, first_marks_lem, round_actions_here, round_facts, round_marks}
use Rattle.marking.proofs.SameMarks.{same_marks_equal, same_marks_says}

module _ (t : Task) (level : ℕ) where
  pub round_shaped : (m : Marks) → Shaped t (next_marks t level m)
  round_shaped m = rw (round_marks t level m) (marks_of_shaped t (round_actions_here t level m) (round_facts t level m (next_actions t level m)))

  -- a round adds marks and takes none away
  pub round_adds : (m : Marks) → Among t m (next_marks t level m)
  round_adds m =
      let A = round_actions_here t level m in
      let F = round_facts t level m (next_actions t level m) in
      record {
        actions = λ a l e. ap (λ (k : Marks). kept k a) (round_marks t level m) ∙ marks_of_kept t A F a l ∙ or_left _ e;
        facts = λ v d l k e. ap (λ (k : Marks). relevant k v d) (round_marks t level m) ∙ marks_of_relevant t A F v d l k ∙ or_left _ e;
      }

  -- so it adds at least one, or the comparison passes
  pub round_more : (m : Marks) → Shaped t m → same_marks m (next_marks t level m) ≡ false → mark_count t m < mark_count t (next_marks t level m)
  round_more m s e =
      let next = next_marks t level m in
      split_le (mark_count t next) (mark_count t m)
      (λ l. clash (same_marks_equal m next (among_same t m next s (round_shaped m) (round_adds m) l)) e)
      (λ l. l)

  abbrev GoalRelevant : Marks → Type 0
  GoalRelevant m = (v d : ℕ) → has_fact t.goal v d ≡ true → relevant m v d ≡ true

  round_goal : Valid t → (m : Marks) → GoalRelevant m → GoalRelevant (next_marks t level m)
  round_goal w m g v d h =
      let place = fact_valid t 0 t.goal v d w.goal h in
      (round_adds m).facts v d place.known place.inside (g v d h)

  pub first_shaped : Shaped t (first_marks t level)
  first_shaped = rw (first_marks_lem t level) (marks_of_shaped t (λ a. false) (names level t.goal))

  first_goal : Valid t → GoalRelevant (first_marks t level)
  first_goal w v d h =
      let place = fact_valid t 0 t.goal v d w.goal h in
      ap (λ (k : Marks). relevant k v d) (first_marks_lem t level)
      ∙ marks_of_relevant t (λ a. false) (names level t.goal) v d place.known place.inside
      ∙ fact_names level t.goal v d h

  -- a round for each mark that may yet be set, and one more
  mark_from_fixed : Valid t → (limit : ℕ) (m : Marks) (rounds : ℕ) → Shaped t m → GoalRelevant m → fact_count t + action_count t < limit + mark_count t m → Fixed t level (mark_from limit t level m rounds).marks
  unfolding mark_from
  mark_from_fixed w zero m rounds s g h = absurd (omega (arith, mark_count_most t m))
  mark_from_fixed w (suc limit) m rounds s g h =
      let next = next_marks t level m in
      cond_case (λ (k : Marking). Fixed t level k.marks) (same_marks m next)
      (record { marks = m; rounds = rounds + 1 })
      (mark_from limit t level next (rounds + 1))
      (λ e. record { same = sym (same_marks_says m next e); goal_relevant = g })
      (λ e. mark_from_fixed w limit next (rounds + 1) (round_shaped m) (round_goal w m g) (omega (arith, round_more m s e)))

  mark_from_rounds : (limit : ℕ) (m : Marks) (rounds : ℕ) → (mark_from limit t level m rounds).rounds ≤ rounds + limit
  unfolding mark_from
  mark_from_rounds zero m rounds = omega arith
  mark_from_rounds (suc limit) m rounds =
      let next = next_marks t level m in
      cond_case (λ (k : Marking). k.rounds ≤ rounds + suc limit) (same_marks m next)
      (record { marks = m; rounds = rounds + 1 })
      (mark_from limit t level next (rounds + 1))
      (λ e. omega arith)
      (λ e. omega (arith, mark_from_rounds limit next (rounds + 1)))

-- the marking ends in a round that changes nothing
pub marking_fixed : (t : Task) (level : ℕ) → Valid t → Fixed t level (marking t level).marks
unfolding marking
marking_fixed t level w =
    mark_from_fixed t level w (fact_count t + action_count t + 1) (first_marks t level) 0 (first_shaped t level) (first_goal t level w) (omega arith)

pub marking_rounds : (t : Task) (level : ℕ) → (marking t level).rounds ≤ fact_count t + action_count t + 1
unfolding marking
marking_rounds t level = omega (arith, mark_from_rounds t level (fact_count t + action_count t + 1) (first_marks t level) 0)
