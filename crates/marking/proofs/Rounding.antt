-- The rounds of the code: before each, what is left to mark is what the definition has left; after the last, the arrays hold
-- the marks that it ends with.
use Prim.Native.Nat.{ℕ, zero, suc, ◌+◌, ◌*◌, ◌-◌, ◌≤◌, ◌<◌}
use mathlib.Core.Path.{◌≡◌, refl, sym, ap, ap₂, ◌∙◌}
use mathlib.Core.Bool.{Bool, true, false, not, cond, ◌&&◌}
use mathlib.Core.List.{List}
use native.Mathlib.Omega.{arith}
use lib.Dec.{eqb}
use lib.ListN.{get_or, replicate, length-replicate}
use Rattle.files.specs.Below.{bit, sum_below, any_below}
use Rattle.files.specs.Dense.{held}
use Rattle.files.specs.declared.arrays.Arrays.{Arrays}
use Rattle.files.specs.Task.{Task, action_count, variable_count, fact_count, size_of}
use Rattle.files.proofs.BelowLaws.{bit_most}
use Rattle.files.proofs.Countdown.{one_more}
use Rattle.files.proofs.Filling.{zeros_entry}
use Rattle.files.proofs.Logic.{clash, split}
use Rattle.files.proofs.Valid.{Valid}
use Rattle.marking.specs.Marks.{Marks, kept, relevant, names, first_marks, same_marks}
use Rattle.marking.specs.Links.{threatened, linked, unlinked}
use Rattle.marking.specs.Rounds.{next_marks, Marking, mark_from, marking}
use Rattle.marking.specs.Mark.{fact_mark}
use Rattle.marking.specs.Dense.{SetWhere, is_marked, other_than, row_names, fact_byte, Final}
use Rattle.marking.proofs.HeldMarks.{held_marks, fact_at, marks_held, kept_held, relevant_held, held_shaped, threatened_held}
use Rattle.files.proofs.HeldTask.{variables_held, actions_held, goal_held, goal_valid, effect_at}
use Rattle.files.proofs.CountOrder.{sum_order}
use Rattle.marking.proofs.MarkCount.{mark_count, mark_count_most}
use Rattle.marking.proofs.MarkTables.{marks_of_same}
use Rattle.marking.proofs.Progress.{Progress}
use Rattle.marking.proofs.RoundBound.{round_more}
use Rattle.marking.proofs.RoundCount.{mark_sum, sum_same_marks, marks_same_sum}
use Rattle.marking.proofs.RoundFacts.{names_held, named_inside}
use Rattle.marking.proofs.RoundLaws.{first_marks_lem}
use Rattle.marking.proofs.RoundProgress.{Round, round_held, round_progress, free_marked}
use Rattle.marking.proofs.SameMarks.{same_marks_equal, same_marks_says}
use Rattle.files.proofs.Truth.{bit_marked, marked_bit}

-- the most rounds that there can be
abbrev pub limit : Arrays → ℕ
limit d = fact_count (held d) + action_count (held d) + 1

-- before a round
pub record Rounding (d : Arrays) (level : ℕ) (actions facts unlinked_before threats kept_before counted_before : List ℕ) (rounds count : ℕ) : Type 0 where
  pub progress : Progress d level actions facts unlinked_before threats kept_before counted_before
  pub ahead : mark_from (limit d - rounds) (held d) level (held_marks (held d) actions facts) rounds ≡ marking (held d) level
  pub few : rounds ≤ mark_count (held d) (held_marks (held d) actions facts)
  pub counted : count ≡ mark_sum d actions facts

-- the definition's next round
module _ (t : Task) (level : ℕ) (m : Marks) where
  mark_ends : (left rounds : ℕ) → 0 < left → same_marks m (next_marks t level m) ≡ true → mark_from left t level m rounds ≡ record { marks = m; rounds = rounds + 1 }
  unfolding mark_from
  mark_ends left rounds h e =
      ap (λ (n : ℕ). mark_from n t level m rounds) (one_more left h)
      ∙ ap (λ (b : Bool). cond b (record { marks = m; rounds = rounds + 1 }) (mark_from (left - 1) t level (next_marks t level m) (rounds + 1))) e

  mark_goes_on : (left rounds : ℕ) → 0 < left → same_marks m (next_marks t level m) ≡ false → mark_from left t level m rounds ≡ mark_from (left - 1) t level (next_marks t level m) (rounds + 1)
  unfolding mark_from
  mark_goes_on left rounds h e =
      ap (λ (n : ℕ). mark_from n t level m rounds) (one_more left h)
      ∙ ap (λ (b : Bool). cond b (record { marks = m; rounds = rounds + 1 }) (mark_from (left - 1) t level (next_marks t level m) (rounds + 1))) e

all_left : (n : ℕ) → n - 0 ≡ n
all_left n = omega arith

-- facts are few
pub facts_few : (t : Task) → Valid t → fact_count t ≤ 2048
facts_few t ok = omega (arith, sum_order (variable_count t) (size_of t) (λ v. 32) (λ v l. ok.size_most v), thirty_twos (variable_count t), ok.variables_few)
  where
    thirty_twos : (n : ℕ) → sum_below n (λ v. 32) ≡ 32 * n
    thirty_twos zero = refl
    thirty_twos (suc n) = omega (arith, thirty_twos n)

module _ (d : Arrays) (ok : Valid (held d)) (level : ℕ) where
  -- before the first round
  module _ (facts : List ℕ) (s : SetWhere (row_names (eqb level 1) d.goal 0 d.sizes d.variables) (replicate 2048 0) facts) where
    zeros : (n i : ℕ) → is_marked (replicate n 0) i ≡ false
    zeros n i = ap (λ (k : ℕ). eqb k 1) (zeros_entry n i)

    first_entry_lem : (i : ℕ) → i < 2048 → get_or facts i 0 ≡ bit (row_names (eqb level 1) d.goal 0 d.sizes d.variables i)
    first_entry_lem i h = s.entry i (omega (arith, length-replicate {A = ℕ} 2048 0)) ∙ ap (λ (n : ℕ). cond (row_names (eqb level 1) d.goal 0 d.sizes d.variables i) 1 n) (zeros_entry 2048 i) ∙ as_bit (row_names (eqb level 1) d.goal 0 d.sizes d.variables i)
      where
        as_bit : (b : Bool) → cond b 1 0 ≡ bit b
        as_bit true = refl
        as_bit false = refl

    first_marked : (i : ℕ) → i < 2048 → is_marked facts i ≡ row_names (eqb level 1) d.goal 0 d.sizes d.variables i
    first_marked i h = ap (λ (n : ℕ). eqb n 1) (first_entry_lem i h) ∙ bit_marked (row_names (eqb level 1) d.goal 0 d.sizes d.variables i)

    first_named : (v e : ℕ) → v < d.variables → e < size_of (held d) v → is_marked facts (32 * v + e) ≡ names level (held d).goal v e
    unfolding names
    first_named v e h k =
        first_marked (32 * v + e) (omega (arith, ok.variables_few, variables_held d, ok.size_most v))
        ∙ names_held d ok (eqb level 1) d.goal 0 (goal_valid d ok) v e h k
        ∙ ap (λ ps. names level ps v e) (sym (goal_held d))

    first_held : held_marks (held d) (replicate 512 0) facts ≡ first_marks (held d) level
    first_held =
        marks_held d (replicate 512 0) facts
        ∙ marks_of_same (held d) (is_marked (replicate 512 0)) (λ a. false) (fact_at d (replicate 512 0) facts) (names level (held d).goal)
        (λ a l. zeros 512 a)
        (λ v e h k. first_named v e (omega (arith, variables_held d)) k)
        ∙ sym (first_marks_lem (held d) level)

    none_threatened : (v : ℕ) → v < d.variables → get_or {A = ℕ} (replicate 64 0) v 0 ≡ bit (threatened (held d) (is_marked (replicate 512 0)) v)
    none_threatened v h = zeros_entry 64 v ∙ sym (ap bit (threatened_held d (is_marked (replicate 512 0)) v h ∙ never d.actions))
      where
        never : (n : ℕ) → any_below n (λ a. is_marked (replicate 512 0) a && other_than (effect_at d a v) (get_or d.starts v 0)) ≡ false
        never zero = refl
        never (suc n) = rw (zeros 512 n) (never n)

    names_whole : level ≡ 1 → (v x y : ℕ) → names level (held d).goal v x ≡ names level (held d).goal v y
    unfolding names
    names_whole one v x y = rw one refl

    first_progress : Progress d level (replicate 512 0) facts (replicate 2048 0) (replicate 64 0) (replicate 512 0) (replicate 512 0)
    first_progress =
        record {
          actions_long = length-replicate {A = ℕ} 512 0;
          facts_long = s.same ∙ length-replicate {A = ℕ} 2048 0;
          threats_long = length-replicate {A = ℕ} 64 0;
          action_bit = λ a l. omega (arith, zeros_entry 512 a);
          fact_bit = λ i l. omega (arith, first_entry_lem i l, bit_most (row_names (eqb level 1) d.goal 0 d.sizes d.variables i));
          fact_known = λ v e h k q. named_inside d ok (eqb level 1) d.goal 0 (goal_valid d ok) v e k (sym (first_marked (32 * v + e) (omega arith)) ∙ q);
          kept_before_bit = λ a l. omega (arith, zeros_entry 512 a);
          kept_before_stays = λ a l q. q;
          threat = none_threatened;
          before_bit = λ v e h k. omega (arith, zeros_entry 2048 (32 * v + e));
          before_unlinked = λ v e h k q. clash q (zeros 2048 (32 * v + e));
          before_kept = λ a v l h there q. clash q (zeros 2048 (32 * v + effect_at d a v));
          counted_before_bit = λ a l. omega (arith, zeros_entry 512 a);
          counted_before_kept = λ a l q. q;
          counted_before_facts = λ a l q. clash q (zeros 512 a);
          whole = λ one v x y h i j q. first_named v y h j ∙ names_whole one v y x ∙ sym (first_named v x h i) ∙ q;
        }

    pub rounding_begins : (count : ℕ) → count ≡ mark_sum d (replicate 512 0) facts → Rounding d level (replicate 512 0) facts (replicate 2048 0) (replicate 64 0) (replicate 512 0) (replicate 512 0) 0 count
    unfolding marking
    rounding_begins count e =
        record {
          progress = first_progress;
          ahead = ap₂ (λ (n : ℕ) (m : Marks). mark_from n (held d) level m 0) (all_left (limit d)) first_held;
          few = omega arith;
          counted = e;
        }

  -- there is a round left, and rounds are few
  module _ (actions facts unlinked_before threats kept_before counted_before : List ℕ) (rounds count : ℕ) (w : Rounding d level actions facts unlinked_before threats kept_before counted_before rounds count) where
    left : 0 < limit d - rounds
    left = omega (arith, w.few, mark_count_most (held d) (held_marks (held d) actions facts))

    pub rounds_few : rounds ≤ 2560
    rounds_few = omega (arith, w.few, mark_count_most (held d) (held_marks (held d) actions facts), facts_few (held d) ok, ok.actions_few)

    pub rounding_less : limit d - (rounds + 1) < limit d - rounds
    rounding_less = omega (arith, left)

  -- from one round to the next
  module _ (pairs actions facts unlinked_before threats kept_before counted_before : List ℕ) (rounds count : ℕ) (w : Rounding d level actions facts unlinked_before threats kept_before counted_before rounds count)
      (threats' u actions' tracks counted facts' : List ℕ) (r : Round d level pairs actions facts unlinked_before threats kept_before counted_before threats' u actions' tracks counted facts')
      (marks : ℕ) (sum : marks ≡ mark_sum d actions' facts') where
    abbrev m : Marks
    m = held_marks (held d) actions facts

    abbrev next : Marks
    next = next_marks (held d) level m

    after : held_marks (held d) actions' facts' ≡ next
    after = round_held d ok level pairs actions facts unlinked_before threats kept_before counted_before w.progress threats' u actions' tracks counted facts' r

    pub on : Progress d level actions' facts' u threats' actions counted
    on = round_progress d ok level pairs actions facts unlinked_before threats kept_before counted_before w.progress threats' u actions' tracks counted facts' r

    not_same : (marks ≡ count → ⊥) → same_marks m next ≡ false
    not_same differs =
        split (same_marks m next)
        (λ e.
        absurd
        (differs
        (sum
        ∙ sym
        (marks_same_sum d ok level actions facts unlinked_before threats kept_before counted_before w.progress actions' facts' u threats' actions counted on _ _ r.actions_set r.facts_set
        (same_marks_says m next e ∙ sym after))
        ∙ sym w.counted)))
        (λ e. e)

    pub rounding_next : (marks ≡ count → ⊥) → Rounding d level actions' facts' u threats' actions counted (rounds + 1) marks
    rounding_next differs =
        let changed = not_same differs in
        let more = round_more (held d) level m (held_shaped d actions facts) changed in
        let fewer : limit d - rounds - 1 ≡ limit d - (rounds + 1) = omega arith in
        record {
          progress = on;
          ahead =
              ap (λ (k : Marks). mark_from (limit d - (rounds + 1)) (held d) level k (rounds + 1)) after
              ∙ ap (λ (n : ℕ). mark_from n (held d) level next (rounds + 1)) (sym fewer)
              ∙ sym (mark_goes_on (held d) level m (limit d - rounds) rounds (left actions facts unlinked_before threats kept_before counted_before rounds count w) changed)
              ∙ w.ahead;
          few = rw after (omega (arith, w.few, more));
          counted = sum;
        }

    -- the round that changes nothing is the last
    module _ (same : marks ≡ count) where
      unchanged : m ≡ held_marks (held d) actions' facts'
      unchanged =
          sum_same_marks d ok level actions facts unlinked_before threats kept_before counted_before w.progress actions' facts' u threats' actions counted on _ _ r.actions_set r.facts_set
          (sym w.counted ∙ sym same ∙ sum)

      result : marking (held d) level ≡ record { marks = m; rounds = rounds + 1 }
      result = sym w.ahead ∙ mark_ends (held d) level m (limit d - rounds) rounds (left actions facts unlinked_before threats kept_before counted_before rounds count w) (same_marks_equal m next (unchanged ∙ after))

      final_marks : (marking (held d) level).marks ≡ m
      final_marks = ap (λ (k : Marking). k.marks) result

      byte : (b l : Bool) → fact_byte (bit b) (bit (b && not l)) ≡ bit b + bit (b && l)
      unfolding fact_byte
      byte true true = refl
      byte true false = refl
      byte false l = refl

      fact_byte_lem : (v e : ℕ) → v < variable_count (held d) → e < size_of (held d) v → fact_byte (get_or facts' (32 * v + e) 0) (get_or u (32 * v + e) 0) ≡ fact_mark (held d) level m v e
      unfolding fact_mark unlinked
      fact_byte_lem v e h k =
          let known : v < d.variables = omega (arith, variables_held d) in
          let small : e < 32 = omega (arith, ok.size_most v) in
          let fact : get_or facts' (32 * v + e) 0 ≡ bit (relevant m v e) =
          marked_bit (get_or facts' (32 * v + e) 0) (on.fact_bit (32 * v + e) (omega (arith, ok.variables_few)))
          ∙ ap bit (sym (relevant_held d actions' facts' v e known k) ∙ ap (λ (k : Marks). relevant k v e) (sym unchanged)) in
          let free : get_or u (32 * v + e) 0 ≡ bit (relevant m v e && not (linked (held d) level (kept m) v e)) =
          marked_bit (get_or u (32 * v + e) 0) (on.before_bit v e known small)
          ∙ ap bit (free_marked d ok level pairs actions facts unlinked_before threats kept_before counted_before w.progress threats' u actions' tracks counted facts' r v e known small) in
          ap₂ fact_byte fact free ∙ byte (relevant m v e) (linked (held d) level (kept m) v e)

      pub rounding_ends : Final (held d) level actions' facts' u (rounds + 1)
      rounding_ends =
          record {
            action =
                λ a l.
                let known : a < d.actions = omega (arith, actions_held d) in
                marked_bit (get_or actions' a 0) (on.action_bit a known)
                ∙ ap bit (sym (kept_held d actions' facts' a known) ∙ ap (λ (k : Marks). kept k a) (sym unchanged ∙ sym final_marks));
            fact = λ v e h k. fact_byte_lem v e h k ∙ ap (λ (n : Marks). fact_mark (held d) level n v e) (sym final_marks);
            count = sym (ap (λ (k : Marking). k.rounds) result);
          }
