-- A round of the code: its marks are those after the round, and what it has looked at serves the next.
use Prim.Native.Nat.{ℕ, ◌+◌, ◌*◌, ◌<◌}
use mathlib.Core.Path.{◌≡◌, refl, sym, ap, ◌∙◌}
use mathlib.Core.Bool.{Bool, true, false, not, ◌&&◌, ◌||◌}
use mathlib.Core.List.{List}
use mathlib.Core.Logic.{⊎_elim}
use native.Mathlib.Omega.{arith}
use lib.Dec.{eqb, leb}
use lib.ListN.{get_or}
use Rattle.bits.specs.Sets.{in_words}
use Rattle.files.specs.Below.{bit}
use Rattle.files.specs.Dense.{held}
use Rattle.files.specs.declared.arrays.Arrays.{Arrays}
use Rattle.files.specs.Task.{Pair, Task, action_of, action_count, variable_count, size_of, start_of}
use Rattle.files.proofs.BelowLaws.{any_below_intro, any_below_elim, bit_most}
use Rattle.files.proofs.Logic.{clash, split, and_split, and_join, or_split, or_left, or_right}
use Rattle.files.proofs.Tabulate.{tabulate_entry}
use Rattle.files.proofs.Valid.{Valid}
use Rattle.marking.specs.Marks.{Marks, kept, relevant, names}
use Rattle.marking.specs.Links.{sets_other, threatened, linked, unlinked, tracked, gains_action}
use Rattle.marking.specs.Rounds.{marked, next_actions, tracked_marks, counted_actions, gains_fact, next_marks}
use Rattle.marking.specs.Dense.{SetWhere, is_marked, threatens_anew, unlinked_at, achieves, tracked_at, could_cover_at, covered_at, counted_at, names_anew}
use Rattle.marking.proofs.HeldMarks.{held_marks, fact_at, marks_held, kept_held, relevant_held}
use Rattle.files.proofs.HeldTask.{variables_held, actions_held, effect_at, effect_valid}
use Rattle.marking.proofs.MarkCount.{Among}
use Rattle.marking.proofs.MarkTables.{marks_of_same}
use Rattle.marking.proofs.Progress.{Progress}
use Rattle.marking.proofs.RoundActions.{unlinked_says, achieves_gains, actions_now}
use Rattle.marking.proofs.RoundBound.{round_adds}
use Rattle.marking.proofs.RoundCovering.{counted_now}
use Rattle.marking.proofs.RoundFacts.{count_marked, count_bit, facts_bit, facts_now, facts_known}
use Rattle.marking.proofs.RoundLaws.{round_actions_here, round_facts, round_marks, set_aside}
use Rattle.marking.proofs.RoundLinks.{threats_now, unlinked_now, unlinked_marked, tracked_now_lem}
use Rattle.files.proofs.Truth.{any_same, bit_marked}

-- with more marks, no more is linked
module _ (t : Task) (level : ℕ) (m n : Marks) (more : Among t m n) where
  threatened_grows : (v : ℕ) → threatened t (kept m) v ≡ true → threatened t (kept n) v ≡ true
  unfolding threatened
  threatened_grows v q =
      let found = any_below_elim (action_count t) (λ a. kept m a && sets_other (action_of t a).effects v (start_of t v)) q in
      let both = and_split (kept m found.0) (sets_other (action_of t found.0).effects v (start_of t v)) found.2 in
      any_below_intro (action_count t) (λ a. kept n a && sets_other (action_of t a).effects v (start_of t v)) found.0 found.1 (and_join (more.actions found.0 found.1 both.0) both.1)

  linked_shrinks : (v e : ℕ) → linked t level (kept n) v e ≡ true → linked t level (kept m) v e ≡ true
  unfolding linked
  linked_shrinks v e q =
      let high = and_split (leb 3 level) (eqb e (start_of t v) && not (threatened t (kept n) v)) q in
      let both = and_split (eqb e (start_of t v)) (not (threatened t (kept n) v)) high.1 in
      and_join high.0
      (and_join both.0
      (split (threatened t (kept m) v) (λ r. clash both.1 (ap not (threatened_grows v r))) (λ r. ap not r)))

  unlinked_grows : (v e : ℕ) → v < variable_count t → e < size_of t v → unlinked t level m v e ≡ true → unlinked t level n v e ≡ true
  unfolding unlinked
  unlinked_grows v e h k q =
      let both = and_split (relevant m v e) (not (linked t level (kept m) v e)) q in
      and_join (more.facts v e h k both.0)
      (split (linked t level (kept n) v e) (λ r. clash both.1 (ap not (linked_shrinks v e r))) (λ r. ap not r))

-- what a round of the code leaves in its arrays
pub record Round (d : Arrays) (level : ℕ) (pairs actions facts unlinked_before threats kept_before counted_before threats' u actions' tracks counted facts' : List ℕ) : Type 0 where
  pub table : level ≡ 4 → (a b : ℕ) → a < d.actions → b < d.actions → in_words pairs (8 * a) b ≡ could_cover_at d.costs d.conditions d.variables b a
  pub threats_set : SetWhere (threatens_anew d.effects d.starts d.variables actions kept_before d.actions) threats threats'
  pub unlinked_at_lem : (i : ℕ) → i < 32 * d.variables → get_or u i 0 ≡ bit (unlinked_at level facts d.starts threats' i)
  pub actions_set : SetWhere (achieves d.effects d.actions unlinked_before u (32 * d.variables)) actions actions'
  pub tracked_at_lem : (v : ℕ) → v < d.variables → get_or tracks v 0 ≡ bit (tracked_at u v)
  pub counted_at_lem : (a : ℕ) → a < d.actions → get_or counted a 0 ≡ bit (counted_at level actions' counted_before (covered_at actions' pairs d.effects tracks d.variables d.actions a) a)
  pub facts_set : SetWhere (names_anew (eqb level 1) d.conditions d.sizes d.variables counted counted_before d.actions) facts facts'

module _ (d : Arrays) (ok : Valid (held d)) (level : ℕ) (pairs actions facts unlinked_before threats kept_before counted_before : List ℕ) (p : Progress d level actions facts unlinked_before threats kept_before counted_before)
    (threats' u actions' tracks counted facts' : List ℕ) (r : Round d level pairs actions facts unlinked_before threats kept_before counted_before threats' u actions' tracks counted facts') where
  abbrev m : Marks
  m = held_marks (held d) actions facts

  abbrev A : List Bool
  A = next_actions (held d) level m

  free : (v e : ℕ) → v < d.variables → e < 32 → get_or u (32 * v + e) 0 ≡ bit (unlinked (held d) level m v e)
  free = unlinked_now d ok level actions facts unlinked_before threats kept_before counted_before p threats' r.threats_set u r.unlinked_at_lem

  pub free_marked : (v e : ℕ) → v < d.variables → e < 32 → is_marked u (32 * v + e) ≡ unlinked (held d) level m v e
  free_marked = unlinked_marked d ok level actions facts unlinked_before threats kept_before counted_before p threats' r.threats_set u r.unlinked_at_lem

  action_now : (a : ℕ) → a < d.actions → get_or actions' a 0 ≡ bit (kept m a || gains_action (held d) level m a)
  action_now = actions_now d ok level actions facts unlinked_before threats kept_before counted_before p u free free_marked actions' r.actions_set

  action_marked : (a : ℕ) → a < d.actions → is_marked actions' a ≡ kept m a || gains_action (held d) level m a
  action_marked a l = ap (λ (n : ℕ). eqb n 1) (action_now a l) ∙ bit_marked (kept m a || gains_action (held d) level m a)

  action_next : (a : ℕ) → a < d.actions → is_marked actions' a ≡ marked A a
  unfolding next_actions
  action_next a l = action_marked a l ∙ sym (tabulate_entry (λ b. kept m b || gains_action (held d) level m b) (action_count (held d)) a false (omega (arith, actions_held d)))

  tracked_marked : (v : ℕ) → v < d.variables → is_marked tracks v ≡ tracked (held d) level m v
  tracked_marked v h =
      ap (λ (n : ℕ). eqb n 1) (r.tracked_at_lem v h)
      ∙ bit_marked (tracked_at u v)
      ∙ tracked_now_lem d ok level actions facts unlinked_before threats kept_before counted_before p threats' r.threats_set u r.unlinked_at_lem v h

  abbrev C : List Bool
  C = counted_actions (held d) level (tracked_marks (held d) level m) A

  count_now : (a : ℕ) → a < d.actions → get_or counted a 0 ≡ bit (is_marked counted_before a || marked C a)
  count_now a l = r.counted_at_lem a l ∙ ap bit (counted_now d level m actions' pairs tracks action_next tracked_marked r.table counted_before a l)

  fact_now : (v e : ℕ) → v < d.variables → e < size_of (held d) v → get_or facts' (32 * v + e) 0 ≡ bit (relevant m v e || gains_fact (held d) level C v e)
  fact_now = facts_now d ok level actions facts unlinked_before threats kept_before counted_before p C counted count_now facts' r.facts_set

  fact_marked : (v e : ℕ) → v < d.variables → e < size_of (held d) v → is_marked facts' (32 * v + e) ≡ relevant m v e || gains_fact (held d) level C v e
  fact_marked v e h k = ap (λ (n : ℕ). eqb n 1) (fact_now v e h k) ∙ bit_marked (relevant m v e || gains_fact (held d) level C v e)

  -- the marks after the round
  pub round_held : held_marks (held d) actions' facts' ≡ next_marks (held d) level m
  round_held =
      marks_held d actions' facts'
      ∙ marks_of_same (held d) (is_marked actions') (round_actions_here (held d) level m) (fact_at d actions' facts') (round_facts (held d) level m A)
      (λ a l. action_marked a (omega (arith, actions_held d)))
      (λ v e h k. fact_marked v e (omega (arith, variables_held d)) k)
      ∙ sym (round_marks (held d) level m)

  fact_stays : (v e : ℕ) → v < d.variables → e < size_of (held d) v → is_marked facts (32 * v + e) ≡ true → is_marked facts' (32 * v + e) ≡ true
  fact_stays v e h k q = fact_marked v e h k ∙ or_left (gains_fact (held d) level C v e) (relevant_held d actions facts v e h k ∙ q)

  action_stays : (a : ℕ) → a < d.actions → is_marked actions a ≡ true → is_marked actions' a ≡ true
  action_stays a l q = action_marked a l ∙ or_left (gains_action (held d) level m a) (kept_held d actions facts a l ∙ q)

  -- an action that counts is kept
  counted_kept : (a : ℕ) → a < d.actions → marked C a ≡ true → is_marked actions' a ≡ true
  unfolding counted_actions
  counted_kept a l q =
      action_next a l
      ∙ (and_split (marked A a) (not (set_aside (held d) level m A a)) (sym (tabulate_entry (λ b. marked A b && not (set_aside (held d) level m A b)) (action_count (held d)) a false (omega (arith, actions_held d))) ∙ q)).0

  free_next : (v e : ℕ) → v < d.variables → e < 32 → is_marked u (32 * v + e) ≡ true → unlinked (held d) level (held_marks (held d) actions' facts') v e ≡ true
  free_next v e h k q =
      let now : unlinked (held d) level m v e ≡ true = sym (free_marked v e h k) ∙ q in
      let inside = (unlinked_says d ok level actions facts unlinked_before threats kept_before counted_before p v e now).inside in
      ap (λ (n : Marks). unlinked (held d) level n v e) round_held
      ∙ unlinked_grows (held d) level m (next_marks (held d) level m) (round_adds (held d) level m) v e (omega (arith, variables_held d)) inside now

  free_kept : (a v : ℕ) → a < d.actions → v < d.variables → eqb (effect_at d a v) 255 ≡ false → is_marked u (32 * v + effect_at d a v) ≡ true → is_marked actions' a ≡ true
  free_kept a v l h there q =
      let small : effect_at d a v < 32 = omega (arith, effect_valid d ok a v l h there, ok.size_most v) in
      action_marked a l
      ∙ or_right (kept m a) (achieves_gains d ok level actions facts unlinked_before threats kept_before counted_before p a v l h there (sym (free_marked v (effect_at d a v) h small) ∙ q))

  counted_named : (a : ℕ) → a < d.actions → is_marked counted a ≡ true → (v e : ℕ) → v < d.variables → e < size_of (held d) v → names level (action_of (held d) a).conditions v e ≡ true → is_marked facts' (32 * v + e) ≡ true
  unfolding gains_fact
  counted_named a l q v e h k n =
      ⊎_elim
      (λ old. fact_stays v e h k (p.counted_before_facts a l old v e h k n))
      (λ new.
      fact_marked v e h k
      ∙ or_right (relevant m v e) (any_below_intro (action_count (held d)) (λ b. marked C b && names level (action_of (held d) b).conditions v e) a (omega (arith, actions_held d)) (and_join new n)))
      (or_split (is_marked counted_before a) (marked C a) (sym (count_marked d ok level actions facts unlinked_before threats kept_before counted_before p C counted count_now facts' r.facts_set a l) ∙ q))

  names_whole : level ≡ 1 → (conditions : List Pair) (v x y : ℕ) → names level conditions v x ≡ names level conditions v y
  unfolding names
  names_whole one conditions v x y = rw one refl

  gains_whole : level ≡ 1 → (v x y : ℕ) → gains_fact (held d) level C v x ≡ gains_fact (held d) level C v y
  unfolding gains_fact
  gains_whole one v x y =
      any_same (action_count (held d)) (λ a. marked C a && names level (action_of (held d) a).conditions v x) (λ a. marked C a && names level (action_of (held d) a).conditions v y)
      (λ a l. ap (λ (b : Bool). marked C a && b) (names_whole one (action_of (held d) a).conditions v x y))

  whole_next : level ≡ 1 → (v x y : ℕ) → v < d.variables → x < size_of (held d) v → y < size_of (held d) v → is_marked facts' (32 * v + x) ≡ true → is_marked facts' (32 * v + y) ≡ true
  whole_next one v x y h i j q =
      ⊎_elim
      (λ old. fact_stays v y h j (p.whole one v x y h i j (sym (relevant_held d actions facts v x h i) ∙ old)))
      (λ new. fact_marked v y h j ∙ or_right (relevant m v y) (sym (gains_whole one v x y) ∙ new))
      (or_split (relevant m v x) (gains_fact (held d) level C v x) (sym (fact_marked v x h i) ∙ q))

  pub round_progress : Progress d level actions' facts' u threats' actions counted
  round_progress =
      record {
        actions_long = r.actions_set.same ∙ p.actions_long;
        facts_long = r.facts_set.same ∙ p.facts_long;
        threats_long = r.threats_set.same ∙ p.threats_long;
        action_bit = λ a l. omega (arith, action_now a l, bit_most (kept m a || gains_action (held d) level m a));
        fact_bit = facts_bit d ok level actions facts unlinked_before threats kept_before counted_before p C counted count_now facts' r.facts_set;
        fact_known = facts_known d ok level actions facts unlinked_before threats kept_before counted_before p C counted count_now facts' r.facts_set;
        kept_before_bit = p.action_bit;
        kept_before_stays = action_stays;
        threat = threats_now d ok level actions facts unlinked_before threats kept_before counted_before p threats' r.threats_set;
        before_bit = λ v e h k. omega (arith, free v e h k, bit_most (unlinked (held d) level m v e));
        before_unlinked = free_next;
        before_kept = free_kept;
        counted_before_bit = count_bit d ok level actions facts unlinked_before threats kept_before counted_before p C counted count_now facts' r.facts_set;
        counted_before_kept =
            λ a l q.
            ⊎_elim
            (λ old. action_stays a l (p.counted_before_kept a l old))
            (λ new. counted_kept a l new)
            (or_split (is_marked counted_before a) (marked C a) (sym (count_marked d ok level actions facts unlinked_before threats kept_before counted_before p C counted count_now facts' r.facts_set a l) ∙ q));
        counted_before_facts = counted_named;
        whole = whole_next;
      }
