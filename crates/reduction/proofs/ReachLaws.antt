-- Reach: more reached actions reach no less, so the rounds grow; as many rounds as actions are a fixed point. The reached
-- actions are the least that are closed.
use Prim.Native.Nat.{ℕ, zero, suc, ◌≤◌, ◌<◌}
use mathlib.Core.Path.{◌≡◌, refl, sym, ◌∙◌}
use mathlib.Core.Bool.{Bool, true, false}
use mathlib.Core.List.{List, [], ◌∷◌}
use mathlib.Core.Logic.{◌⊎◌, inl, inr, ⊎_elim}
use native.Mathlib.Omega.{arith}
use lib.Dec.{eqb}
use lib.ListN.{get_or-eq_default}
use Rattle.files.specs.Below.{tabulate, any_below, count_below, all_of}
use Rattle.files.specs.Task.{Pair, Task, action_count, action_of, size_of, start_of}
use Rattle.files.proofs.BelowLaws.{any_below_intro, any_below_elim}
use Rattle.files.proofs.CountOrder.{count_same, count_most}
use Rattle.files.proofs.Logic.{clash, split_le, and_split, and_join, or_split, or_left, or_right}
use Rattle.files.proofs.Tabulate.{tabulate_from_length, tabulate_entry}
use Rattle.files.proofs.Truth.{same_truth}
use Rattle.plans.specs.State.{admits}
use Rattle.marking.specs.Rounds.{marked}
use Rattle.reduction.specs.Reach.{sets, fact_reached, condition_reached, action_reached, reached_in, reached_actions, reached}
use Rattle.reduction.specs.TurnsRight.{ReachClosed}

-- tests that pass where others do
any_grows : (n : ℕ) (f g : ℕ → Bool) → ((i : ℕ) → i < n → f i ≡ true → g i ≡ true) → any_below n f ≡ true → any_below n g ≡ true
any_grows n f g h e = let k = any_below_elim n f e in any_below_intro n g k.0 k.1 (h k.0 k.1 k.2)

all_grows : {A : Type 0} (f g : A → Bool) (xs : List A) → ((x : A) → f x ≡ true → g x ≡ true) → all_of f xs ≡ true → all_of g xs ≡ true
all_grows f g [] h e = refl
all_grows f g (x ∷ xs) h e = let both = and_split (f x) (all_of f xs) e in and_join (h x both.0) (all_grows f g xs h both.1)

module _ (t : Task) where
  -- the actions of R are among those of S
  abbrev Among : (ℕ → Bool) → (ℕ → Bool) → Type 0
  Among R S = (a : ℕ) → a < action_count t → R a ≡ true → S a ≡ true

  -- more actions reach no less
  module _ (R S : ℕ → Bool) (more : Among R S) where
    fact_grows : (v value : ℕ) → fact_reached t R v value ≡ true → fact_reached t S v value ≡ true
    unfolding fact_reached
    fact_grows v value e =
        ⊎_elim
        (λ here. or_left _ here)
        (λ later.
        or_right (eqb value (start_of t v))
        (any_grows (action_count t) _ _
        (λ a l k. let both = and_split (R a) (sets (action_of t a).effects v value) k in and_join (more a l both.0) both.1) later))
        (or_split (eqb value (start_of t v)) _ e)

    condition_grows : (c : Pair) → condition_reached t R c ≡ true → condition_reached t S c ≡ true
    unfolding condition_reached
    condition_grows c e =
        any_grows (size_of t c.variable) _ _
        (λ value l k.
        let both = and_split (admits c value) (fact_reached t R c.variable value) k in
        and_join both.0 (fact_grows c.variable value both.1))
        e

    pub action_grows : (a : ℕ) → action_reached t R a ≡ true → action_reached t S a ≡ true
    unfolding action_reached
    action_grows a e = all_grows (condition_reached t R) (condition_reached t S) (action_of t a).conditions condition_grows e

  -- the actions of so many rounds
  abbrev after : ℕ → ℕ → Bool
  after rounds a = marked (reached_in rounds t) a

  round_none : (a : ℕ) → a < action_count t → after 0 a ≡ false
  unfolding reached_in
  round_none a l = tabulate_entry (λ b. false) (action_count t) a false l

  round_next : (k a : ℕ) → a < action_count t → after (suc k) a ≡ action_reached t (after k) a
  unfolding reached_in
  round_next k a l = tabulate_entry (action_reached t (after k)) (action_count t) a false l

  marked_inside : (f : ℕ → Bool) (a : ℕ) → marked (tabulate (action_count t) f) a ≡ true → a < action_count t
  marked_inside f a e =
      split_le (action_count t) a
      (λ past. clash e (get_or-eq_default (tabulate (action_count t) f) false (omega (arith, tabulate_from_length f 0 (action_count t)))))
      (λ below. below)

  round_inside : (k a : ℕ) → after k a ≡ true → a < action_count t
  unfolding reached_in
  round_inside zero a e = marked_inside (λ b. false) a e
  round_inside (suc k) a e = marked_inside (action_reached t (after k)) a e

  rounds_grow : (k : ℕ) → Among (after k) (after (suc k))
  rounds_grow zero a l e = clash e (round_none a l)
  rounds_grow (suc k) a l e =
      round_next (suc k) a l ∙ action_grows (after k) (after (suc k)) (rounds_grow k) a (sym (round_next k a l) ∙ e)

  -- a round that adds nothing is followed by such rounds
  rounds_stay : (k : ℕ) → Among (after (suc k)) (after k) → Among (after (suc (suc k))) (after (suc k))
  rounds_stay k h a l e =
      round_next k a l ∙ action_grows (after (suc k)) (after k) h a (sym (round_next (suc k) a l) ∙ e)

  -- where the next round has no more actions, it adds nothing
  rounds_same : (k : ℕ) → count_below (action_count t) (after (suc k)) ≤ count_below (action_count t) (after k) → Among (after (suc k)) (after k)
  rounds_same k h a l e = count_same (action_count t) (after k) (after (suc k)) (rounds_grow k) h a l ∙ e

  -- each round adds an action, or one before added nothing
  rounds_add : (k : ℕ) → (k ≤ count_below (action_count t) (after k)) ⊎ Among (after (suc k)) (after k)
  rounds_add zero = inl (omega arith)
  rounds_add (suc k) =
      ⊎_elim
      (λ more.
      split_le (count_below (action_count t) (after (suc k))) (count_below (action_count t) (after k))
      (λ same. inr (rounds_stay k (rounds_same k same)))
      (λ grown. inl (omega arith)))
      (λ stays. inr (rounds_stay k stays))
      (rounds_add k)

  -- so the last round adds nothing
  last_stays : Among (after (suc (action_count t))) (after (action_count t))
  last_stays =
      ⊎_elim
      (λ full. rounds_same (action_count t) (omega (arith, full, count_most (action_count t) (after (suc (action_count t))))))
      (λ stays. stays)
      (rounds_add (action_count t))

  -- the reached actions are closed
  pub reached_closed : ReachClosed t (reached t)
  unfolding reached reached_actions
  reached_closed a l e = last_stays a l (round_next (action_count t) a l ∙ e)

  -- and the least of all that are closed
  rounds_least : (R : ℕ → Bool) → ReachClosed t R → (k a : ℕ) → after k a ≡ true → R a ≡ true
  rounds_least R h zero a e = clash e (round_none a (round_inside 0 a e))
  rounds_least R h (suc k) a e =
      let l = round_inside (suc k) a e in
      h a l (action_grows (after k) R (λ b m q. rounds_least R h k b q) a (sym (round_next k a l) ∙ e))

  pub reached_least : (R : ℕ → Bool) → ReachClosed t R → (a : ℕ) → reached t a ≡ true → R a ≡ true
  unfolding reached reached_actions
  reached_least R h a e = rounds_least R h (action_count t) a e

  -- a closed set of reached actions has them all
  pub reached_alike : (R : ℕ → Bool) → ReachClosed t R → ((a : ℕ) → a < action_count t → R a ≡ true → reached t a ≡ true) → (a : ℕ) → a < action_count t → R a ≡ reached t a
  reached_alike R h sound a l = same_truth (R a) (reached t a) (sound a l) (reached_least R h a)
