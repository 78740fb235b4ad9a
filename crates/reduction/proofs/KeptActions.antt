-- A task whose actions are chosen ones of another task in order: new numbers and original numbers, to and fro.
use Prim.Native.Nat.{ℕ, ◌<◌}
use mathlib.Core.Path.{◌≡◌, refl, sym, ap, ◌∙◌}
use mathlib.Core.Bool.{Bool, true}
use mathlib.Core.List.{List, [], map}
use native.Mathlib.Omega.{arith}
use lib.ListN.{length, get_or, length-map}
use Rattle.files.specs.Below.{count_below, chosen_below}
use Rattle.files.specs.Task.{Action, Task, action, action_count, action_of}
use Rattle.files.proofs.Logic.{split_le}
use Rattle.files.proofs.BelowLaws.{count_mono, count_strict, chosen_length, chosen_at, Chosen, chosen, map_entry}
use Rattle.reduction.specs.ReducedBy.{kept_actions, reduced_action, reduced_by}

-- the original number of action i of the chosen ones, and the new number of one that A chooses
abbrev pub original_of : Task → (ℕ → Bool) → ℕ → ℕ
original_of t A i = get_or (kept_actions t A) i 0

abbrev pub reduced_of : (ℕ → Bool) → ℕ → ℕ
reduced_of A a = count_below a A

-- the actions of u are those of t that A chooses, in order, each as f has it
pub record Chooses (t u : Task) (A : ℕ → Bool) (f : Action → Action) : Type 0 where
  pub actions : u.actions ≡ map (λ a. f (action_of t a)) (kept_actions t A)

pub reduced_chooses : (t : Task) (A : ℕ → Bool) → Chooses t (reduced_by t A) A (reduced_action t A)
unfolding reduced_by
reduced_chooses t A = record { actions = refl }

module _ {t u : Task} {A : ℕ → Bool} {f : Action → Action} (c : Chooses t u A f) where
  pub chosen_count : action_count u ≡ count_below (action_count t) A
  unfolding kept_actions
  chosen_count = ap length c.actions ∙ length-map (chosen_below (action_count t) A) (λ a. f (action_of t a)) ∙ chosen_length A (action_count t)

  pub chosen_long : length (kept_actions t A) ≡ action_count u
  unfolding kept_actions
  chosen_long = chosen_length A (action_count t) ∙ sym chosen_count

  pub reduced_known : (a : ℕ) → a < action_count t → A a ≡ true → reduced_of A a < action_count u
  reduced_known a known kept = omega (arith, chosen_count, count_strict A (action_count t) a known kept)

  pub original_reduced : (a : ℕ) → a < action_count t → A a ≡ true → original_of t A (reduced_of A a) ≡ a
  unfolding kept_actions
  original_reduced a known kept = chosen_at A (action_count t) a known kept

  original_chosen : (i : ℕ) (k : Chosen A (action_count t) i) → original_of t A i ≡ k.number
  original_chosen i k = ap (original_of t A) (sym k.rank) ∙ original_reduced k.number k.below k.passes

  pub original_known : (i : ℕ) → i < action_count u → original_of t A i < action_count t
  original_known i h = let k = chosen A (action_count t) i (omega (arith, chosen_count)) in rw (original_chosen i k) k.below

  pub original_kept : (i : ℕ) → i < action_count u → A (original_of t A i) ≡ true
  original_kept i h = let k = chosen A (action_count t) i (omega (arith, chosen_count)) in rw (original_chosen i k) k.passes

  pub reduced_original : (i : ℕ) → i < action_count u → reduced_of A (original_of t A i) ≡ i
  reduced_original i h = let k = chosen A (action_count t) i (omega (arith, chosen_count)) in rw (original_chosen i k) k.rank

  -- original numbers rise with new ones
  pub original_rises : (i j : ℕ) → i < j → j < action_count u → original_of t A i < original_of t A j
  original_rises i j h l =
      split_le (original_of t A j) (original_of t A i)
      (λ m.
      absurd
      (omega (
        arith,
        reduced_original i (omega arith),
        reduced_original j l,
        count_mono A (original_of t A j) (original_of t A i) m,
      )))
      (λ m. m)

  -- what the chosen actions are
  pub chosen_action : (i : ℕ) → i < action_count u → action_of u i ≡ f (action_of t (original_of t A i))
  unfolding kept_actions
  chosen_action i h =
      ap (λ (l : List Action). get_or l i (action 0 [] [])) c.actions
      ∙ map_entry (λ a. f (action_of t a)) (chosen_below (action_count t) A) i (action 0 [] []) 0
      (omega (arith, chosen_count, chosen_length A (action_count t)))

  pub kept_action : (a : ℕ) → a < action_count t → A a ≡ true → action_of u (reduced_of A a) ≡ f (action_of t a)
  kept_action a known kept =
      chosen_action (reduced_of A a) (reduced_known a known kept)
      ∙ ap (λ (x : ℕ). f (action_of t x)) (original_reduced a known kept)
