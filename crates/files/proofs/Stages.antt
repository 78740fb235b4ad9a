-- Laws of rows of stages: which way a stage goes, a row in two parts, a buffer after a stage, and an answer by its row.
use Prim.Native.Nat.{ℕ, ◌≤◌, ◌<◌}
use mathlib.Core.Path.{◌≡◌, refl, sym, ap, ap₂, ◌∙◌}
use mathlib.Core.Bool.{true, false, cond}
use mathlib.Core.List.{List, [], ◌∷◌, ◌++◌, map}
use lib.Dec.{leb}
use borrow.Author.Tests.{le-leb}
use Rattle.files.specs.Outcome.{Outcome, done, refusal, is_done, and_then, fits}
use Rattle.files.specs.Stages.{Stage, stage, beside, outcome_of, left_by, ByStages}
use Rattle.files.proofs.Guards.{goes_le, stops_le, guard_passes, is_done_lem}
use Rattle.files.proofs.Logic.{split, clash}

pub is_yes : (o : Outcome) → o ≡ done → is_done o ≡ true
is_yes o q = is_done_lem o (ap (λ (x : Outcome). x.number) q)

-- a room that is long enough
pub fits_in : (needed room : ℕ) (rest : Outcome) → needed ≤ room → fits needed room rest ≡ rest
unfolding fits
fits_in needed room rest h = sym (guard_passes (leb needed room) 21 needed rest rest (le-leb needed room h) refl)

-- room for two results, the first before the second
module _ (needed other room rest first second : ℕ) (a : first ≡ needed) (b : second ≡ other) where
  pub first_short : (o : Outcome) → room < first → o ≡ refusal 21 first → o ≡ fits needed room (fits other rest done)
  unfolding fits
  first_short o h e = stops_le needed room 21 needed _ o first room a refl h (e ∙ ap (refusal 21) a)

  pub second_short : (o : Outcome) → first ≤ room → rest < second → o ≡ refusal 21 second → o ≡ fits needed room (fits other rest done)
  unfolding fits
  second_short o h k e =
      goes_le needed room 21 needed _ o first room a refl h
      (stops_le other rest 21 other _ o second rest b refl k (e ∙ ap (refusal 21) b))

  pub both_fit : (o : Outcome) → first ≤ room → second ≤ rest → o ≡ done → o ≡ fits needed room (fits other rest done)
  unfolding fits
  both_fit o h k e =
      goes_le needed room 21 needed _ o first room a refl h
      (goes_le other rest 21 other _ o second rest b refl k e)

pub both_yes : (a b : Outcome) → is_done a ≡ true → and_then a b ≡ b
unfolding and_then
both_yes a b e = rw e refl

pub both_no : (a b : Outcome) → is_done a ≡ false → and_then a b ≡ a
unfolding and_then
both_no a b e = rw e refl

-- a last stage that is `done` itself where it is done
pub both_last : (a : Outcome) → (is_done a ≡ true → a ≡ done) → and_then a done ≡ a
both_last a w = split (is_done a) (λ e. both_yes a done e ∙ sym (w e)) (λ e. both_no a done e)

pub both_both : (a b c : Outcome) → and_then (and_then a b) c ≡ and_then a (and_then b c)
both_both a b c =
    split (is_done a)
    (λ e. ap (λ (o : Outcome). and_then o c) (both_yes a b e) ∙ sym (both_yes a (and_then b c) e))
    (λ e. ap (λ (o : Outcome). and_then o c) (both_no a b e) ∙ both_no a c e ∙ sym (both_no a (and_then b c) e))

-- an answer that is whole where its outcome is done
pub answer_by_lem : {A : Type 0} (o row : Outcome) (some whole : A) (beside : Outcome → A) → o ≡ row → (is_done o ≡ true → some ≡ whole)
    → cond (is_done o) some (beside o) ≡ cond (is_done row) whole (beside row)
answer_by_lem o row some whole beside e w =
    split (is_done o) (λ y. rw y (w y)) (λ n. rw n refl)
    ∙ ap (λ (x : Outcome). cond (is_done x) whole (beside x)) e

-- a row in two parts
module _ {B : Type 0} where
  pub outcome_both : (first second : List (Stage B)) → outcome_of (first ++ second) ≡ and_then (outcome_of first) (outcome_of second)
  outcome_both [] second = sym (both_yes done _ (is_yes done refl))
  outcome_both (s ∷ first) second =
      ap (and_then s.outcome) (outcome_both first second) ∙ sym (both_both s.outcome (outcome_of first) (outcome_of second))

  pub left_both : (first second : List (Stage B)) (b : B) → is_done (outcome_of first) ≡ true → left_by (first ++ second) b ≡ left_by second (left_by first b)
  left_both [] second b e = refl
  left_both (s ∷ first) second b e =
      split (is_done s.outcome)
      (λ y. rw y (left_both first second s.leaves (ap is_done (sym (both_yes s.outcome (outcome_of first) y)) ∙ e)))
      (λ n. clash (sym (ap is_done (both_no s.outcome (outcome_of first) n)) ∙ e) n)

  pub left_first : (first second : List (Stage B)) (b : B) → is_done (outcome_of first) ≡ false → left_by (first ++ second) b ≡ left_by first b
  left_first [] second b e = clash (is_yes done refl) e
  left_first (s ∷ first) second b e =
      split (is_done s.outcome)
      (λ y. rw y (left_first first second s.leaves (ap is_done (sym (both_yes s.outcome (outcome_of first) y)) ∙ e)))
      (λ n. rw n refl)

  -- where all are done, what the last leaves
  pub left_last : (stages : List (Stage B)) (s : Stage B) (b : B) → is_done (outcome_of (stages ++ (s ∷ []))) ≡ true → left_by (stages ++ (s ∷ [])) b ≡ s.leaves
  left_last [] s b e = split (is_done s.outcome) (λ y. rw y refl) (λ n. clash (sym (ap is_done (both_no s.outcome done n)) ∙ e) n)
  left_last (x ∷ stages) s b e =
      split (is_done x.outcome)
      (λ y. rw y (left_last stages s x.leaves (ap is_done (sym (both_yes x.outcome _ y)) ∙ e)))
      (λ n. clash (sym (ap is_done (both_no x.outcome _ n)) ∙ e) n)

-- a row beside buffers that it does not touch
module _ {B C : Type 0} (more : B → C) where
  pub outcome_beside : (stages : List (Stage B)) → outcome_of (map (beside more) stages) ≡ outcome_of stages
  outcome_beside [] = refl
  outcome_beside (s ∷ stages) = ap (and_then s.outcome) (outcome_beside stages)

  pub left_beside : (stages : List (Stage B)) (b : B) → left_by (map (beside more) stages) (more b) ≡ more (left_by stages b)
  left_beside [] b = refl
  left_beside (s ∷ stages) b = split (is_done s.outcome) (λ y. rw y (left_beside stages s.leaves)) (λ n. rw n refl)

-- a call by its stages, one after the other: the last is done, one is refused, one is done
module _ {A B : Type 0} {whole : A} {refused : Outcome → A} {given : A} {now : B} where
  pub by_end : {before : B} → given ≡ whole → now ≡ before → ByStages [] whole refused before given now
  unfolding is_done
  by_end e q = record { answer = e; buffers = q }

  module _ {stages : List (Stage B)} {before leaves : B} {o : Outcome} where
    pub by_stop : is_done o ≡ false → given ≡ refused o → now ≡ before → ByStages (stage o leaves ∷ stages) whole refused before given now
    by_stop n e q =
        let is = both_no o (outcome_of stages) n in
        record { answer = e ∙ sym (ap (λ (x : Outcome). cond (is_done x) whole (refused x)) is ∙ rw n refl); buffers = q ∙ rw n refl }

    pub by_next : is_done o ≡ true → ByStages stages whole refused leaves given now → ByStages (stage o leaves ∷ stages) whole refused before given now
    by_next y k =
        let is = both_yes o (outcome_of stages) y in
        record { answer = k.answer ∙ sym (ap (λ (x : Outcome). cond (is_done x) whole (refused x)) is); buffers = k.buffers ∙ rw y refl }

-- a call whose row is two rows, each beside buffers that it does not touch
module _ {B C D : Type 0} (first : List (Stage B)) (second : List (Stage C)) (more : B → D) (further : C → D) where
  both_is : outcome_of (map (beside more) first ++ map (beside further) second) ≡ and_then (outcome_of first) (outcome_of second)
  both_is = outcome_both (map (beside more) first) (map (beside further) second) ∙ ap₂ and_then (outcome_beside more first) (outcome_beside further second)

  module _ {A : Type 0} {whole given : A} {refused : Outcome → A} {now : D} (b : B) where
    pub by_first : is_done (outcome_of first) ≡ false → given ≡ refused (outcome_of first) → now ≡ more (left_by first b)
        → ByStages (map (beside more) first ++ map (beside further) second) whole refused (more b) given now
    by_first n e q =
        let is = both_is ∙ both_no (outcome_of first) (outcome_of second) n in
        record {
          answer = e ∙ sym (ap (λ (x : Outcome). cond (is_done x) whole (refused x)) is ∙ rw n refl);
          buffers = q ∙ sym (left_first (map (beside more) first) (map (beside further) second) (more b) (ap is_done (outcome_beside more first) ∙ n) ∙ left_beside more first b);
        }

    pub by_second : is_done (outcome_of first) ≡ true → (c x : C) → more (left_by first b) ≡ further c → now ≡ further x → ByStages second whole refused c given x
        → ByStages (map (beside more) first ++ map (beside further) second) whole refused (more b) given now
    by_second y c x same q k =
        let is = both_is ∙ both_yes (outcome_of first) (outcome_of second) y in
        record {
          answer = k.answer ∙ sym (ap (λ (o : Outcome). cond (is_done o) whole (refused o)) is);
          buffers =
              q ∙ ap further k.buffers
              ∙ sym (left_both (map (beside more) first) (map (beside further) second) (more b) (ap is_done (outcome_beside more first) ∙ y)
              ∙ ap (left_by (map (beside further) second)) (left_beside more first b ∙ same)
              ∙ left_beside further second c);
        }

-- what a call by its stages answers, from its outcome
module _ {A B : Type 0} {stages : List (Stage B)} {whole given : A} {refused : Outcome → A} {before now : B} (k : ByStages stages whole refused before given now) where
  pub given_whole : is_done (outcome_of stages) ≡ true → given ≡ whole
  given_whole y = k.answer ∙ rw y refl

  pub given_refused : is_done (outcome_of stages) ≡ false → given ≡ refused (outcome_of stages)
  given_refused n = k.answer ∙ rw n refl

-- the same answer in another form
pub by_other : {A C B : Type 0} (f : A → C) {stages : List (Stage B)} {whole given : A} {refused : Outcome → A} {before now : B} {other : C}
    → ByStages stages whole refused before given now → other ≡ f given → ByStages stages (f whole) (λ o. f (refused o)) before other now
by_other f {stages} {whole} {given} {refused} k e =
    record {
      answer = e ∙ ap f k.answer ∙ split (is_done (outcome_of stages)) (λ y. rw y refl) (λ n. rw n refl);
      buffers = k.buffers;
    }
