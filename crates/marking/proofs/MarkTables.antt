-- Marks laid out by a test of actions and a test of facts: their entries, and when two are the same.
use Prim.Native.Nat.{ℕ, ◌≤◌, ◌<◌}
use mathlib.Core.Path.{◌≡◌, sym, ap, ◌∙◌}
use mathlib.Core.Bool.{Bool, true, false}
use mathlib.Core.List.{List, []}
use native.Mathlib.Omega.{arith}
use lib.ListN.{get_or, get_or-eq_default}
use Rattle.files.specs.Below.{tabulate}
use Rattle.files.specs.Task.{Task, variable_count, action_count, size_of}
use Rattle.files.proofs.Tabulate.{tabulate_from_length, tabulate_entry, tabulate_is}
use Rattle.files.proofs.Logic.{clash, split_le}
use Rattle.marking.specs.Marks.{Marks, kept, relevant, action_marks, fact_marks}

-- past the bound there is no entry
tabulate_past : {A : Type 0} (f : ℕ → A) (n i : ℕ) (d : A) → n ≤ i → get_or (tabulate n f) i d ≡ d
tabulate_past f n i d h = get_or-eq_default (tabulate n f) d (omega (arith, tabulate_from_length f 0 n))

-- an entry that passes is below the bound
tabulate_inside : (f : ℕ → Bool) (n i : ℕ) → get_or (tabulate n f) i false ≡ true → i < n
tabulate_inside f n i e = split_le n i (λ past. clash e (tabulate_past f n i false past)) (λ below. below)

-- the same entries make the same list
pub tabulate_same : {A : Type 0} (f g : ℕ → A) (n : ℕ) (d : A) → ((i : ℕ) → i < n → f i ≡ g i) → tabulate n f ≡ tabulate n g
tabulate_same f g n d h = tabulate_is f n (tabulate n g) d (tabulate_from_length g 0 n) (λ i l. h i l ∙ sym (tabulate_entry g n i d l))

module _ (t : Task) where
  unfoldable pub marks_of : (ℕ → Bool) → (ℕ → ℕ → Bool) → Marks
  marks_of A F = record { actions = action_marks t A; facts = fact_marks t F }

  module _ (A : ℕ → Bool) (F : ℕ → ℕ → Bool) where
    pub marks_of_kept : (a : ℕ) → a < action_count t → kept (marks_of A F) a ≡ A a
    unfolding marks_of
    marks_of_kept a l = tabulate_entry A (action_count t) a false l

    row : (v d : ℕ) → v < variable_count t → relevant (marks_of A F) v d ≡ get_or (tabulate (size_of t v) (F v)) d false
    unfolding marks_of
    row v d l = ap (λ (marks : List Bool). get_or marks d false) (tabulate_entry (λ w. tabulate (size_of t w) (F w)) (variable_count t) v [] l)

    pub marks_of_relevant : (v d : ℕ) → v < variable_count t → d < size_of t v → relevant (marks_of A F) v d ≡ F v d
    marks_of_relevant v d l k = row v d l ∙ tabulate_entry (F v) (size_of t v) d false k

    -- a relevant fact is one of the task
    pub marks_of_inside : (v d : ℕ) → relevant (marks_of A F) v d ≡ true → (v < variable_count t) × (d < size_of t v)
    unfolding marks_of
    marks_of_inside v d e =
        split_le (variable_count t) v
        (λ past. clash e (ap (λ (marks : List Bool). get_or marks d false) (tabulate_past (λ w. tabulate (size_of t w) (F w)) (variable_count t) v [] past)))
        (λ below. (below, tabulate_inside (F v) (size_of t v) d (sym (row v d below) ∙ e)))

  pub marks_of_same : (A B : ℕ → Bool) (F G : ℕ → ℕ → Bool) → ((a : ℕ) → a < action_count t → A a ≡ B a) → ((v d : ℕ) → v < variable_count t → d < size_of t v → F v d ≡ G v d) → marks_of A F ≡ marks_of B G
  unfolding marks_of
  marks_of_same A B F G h k =
      let actions = tabulate_same A B (action_count t) false h in
      let facts =
      tabulate_same (λ v. tabulate (size_of t v) (F v)) (λ v. tabulate (size_of t v) (G v)) (variable_count t) []
      (λ v l. tabulate_same (F v) (G v) (size_of t v) false (λ d. k v d l))
      in
      λ i. record { actions = actions i; facts = facts i }

  -- marks with an entry for each action and each fact of the task
  abbrev pub Shaped : Marks → Type 0
  Shaped m = m ≡ marks_of (kept m) (relevant m)

  pub marks_of_shaped : (A : ℕ → Bool) (F : ℕ → ℕ → Bool) → Shaped (marks_of A F)
  marks_of_shaped A F =
      marks_of_same A (kept (marks_of A F)) F (relevant (marks_of A F))
      (λ a l. sym (marks_of_kept A F a l))
      (λ v d l k. sym (marks_of_relevant A F v d l k))
