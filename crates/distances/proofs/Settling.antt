-- Settling states in rising order: what holds between the rounds, that a round keeps it, and that it ends in settled
-- distances.
use Prim.Native.Nat.{ℕ, ◌<◌}
use mathlib.Core.Path.{◌≡◌, refl, sym, ap, subst, ◌∙◌}
use mathlib.Core.Bool.{Bool, true, false}
use mathlib.Core.List.{[], ◌∷◌}
use mathlib.Core.Logic.{◌⊎◌, inl, inr, ⊎_elim}
use mathlib.Core.Option.{none, some}
use Rattle.files.specs.Task.{Task, action_count, action_of}
use Rattle.files.proofs.Logic.{clash, split}
use Rattle.files.proofs.Valid.{Valid}
use Rattle.plans.specs.State.{State, all_hold, applicable}
use Rattle.plans.specs.Plan.{no_steps}
use Rattle.plans.proofs.RunLaws.{Runs}
use Rattle.distances.specs.States.{state_count, state_at}
use Rattle.distances.specs.Table.{Distance, step_to, next_state}
use Rattle.distances.proofs.Settled.{Attained, Settled}
use Rattle.distances.proofs.Radix.{next_below, next_state_lem}
use Rattle.distances.proofs.DistanceLaws.{Le, le_none, le_refl, le_trans, le_antisym, no_steps_le, step_to_none, step_to_above}
use Rattle.files.proofs.Distinct.{split_eq}
use Rattle.distances.proofs.Distances.{step_total, total_none}

-- action a leads from state n to state u
abbrev pub Leads : Task → ℕ → ℕ → ℕ → Type 0
Leads t a n u = (applicable (action_of t a) (state_at t.variables n) ≡ true) × (next_state t a n ≡ u)

-- f is what the entries say; D says which states are settled
pub record Going (t : Task) (f : ℕ → Distance) (D : ℕ → Bool) : Type 0 where
  pub sound : (n : ℕ) → n < state_count t.variables → Attained t n (f n)
  pub goals : (n : ℕ) → n < state_count t.variables → all_hold t.goal (state_at t.variables n) ≡ true → f n ≡ some no_steps
  pub closed : (a n u : ℕ) → a < action_count t → n < state_count t.variables → u < state_count t.variables → D u ≡ true → Leads t a n u
      → Le (f n) (step_to (action_of t a) (f u))
  pub order : (u n : ℕ) → u < state_count t.variables → n < state_count t.variables → D u ≡ true → D n ≡ false → Le (f u) (f n)

-- the distance of a step to u
abbrev pub Via : Task → (ℕ → Distance) → ℕ → ℕ → Distance → Type 0
Via t f u n x = (a : ℕ) × (a < action_count t) × Leads t a n u × (x ≡ step_to (action_of t a) (f u))

-- from f to g: every step to u is offered
pub record Relaxed (t : Task) (f g : ℕ → Distance) (u : ℕ) : Type 0 where
  pub came : (n : ℕ) → n < state_count t.variables → (g n ≡ f n) ⊎ Via t f u n (g n)
  pub lower : (n : ℕ) → n < state_count t.variables → Le (g n) (f n)
  pub every : (a n : ℕ) → a < action_count t → n < state_count t.variables → Leads t a n u → Le (g n) (step_to (action_of t a) (f u))

module _ (t : Task) (valid : Valid t) where
  -- a step in front of a plan
  step_attained : (a n u : ℕ) (x : Distance) → a < action_count t → Leads t a n u → Attained t u x → Attained t n (step_to (action_of t a) x)
  step_attained a n u x h l w =
      ⊎_elim
      (λ z. inl (ap (step_to (action_of t a)) z ∙ step_to_none (action_of t a)))
      (λ z.
      inr (
        a ∷ z.0,
        (h, l.0, subst (λ (s : State). Runs t s z.0) (ap (state_at t.variables) (sym l.1) ∙ next_state_lem t valid a n) z.1),
        ap (step_to (action_of t a)) z.2 ∙ step_total t a z.0,
      ))
      w

  -- the least of those left is settled
  module _ (f g : ℕ → Distance) (D E : ℕ → Bool) (u : ℕ) (w : Going t f D) (r : Relaxed t f g u) (lu : u < state_count t.variables)
      (open_u : D u ≡ false)
      (least : (n : ℕ) → n < state_count t.variables → D n ≡ false → Le (f u) (f n))
      (at_u : E u ≡ true)
      (elsewhere : (n : ℕ) → (n ≡ u → ⊥) → E n ≡ D n) where
    -- what is settled stays
    stays : (n : ℕ) → n < state_count t.variables → Le (f n) (f u) → g n ≡ f n
    stays n l k =
        ⊎_elim
        (λ z. z)
        (λ z. le_antisym _ _ (r.lower n l) (subst (λ (x : Distance). Le (f n) x) (sym z.3) (le_trans _ _ _ k (step_to_above (action_of t z.0) (f u)))))
        (r.came n l)

    low : (n : ℕ) → n < state_count t.variables → E n ≡ true → Le (f n) (f u)
    low n l e =
        split_eq n u
        (λ q. subst (λ (m : ℕ). Le (f m) (f u)) (sym q) (le_refl (f u)))
        (λ q. w.order n u l lu (sym (elsewhere n q) ∙ e) open_u)

    high : (n : ℕ) → n < state_count t.variables → E n ≡ false → Le (f u) (g n)
    high n l e =
        split_eq n u
        (λ q. clash at_u (ap E (sym q) ∙ e))
        (λ q.
        ⊎_elim
        (λ z. subst (λ (x : Distance). Le (f u) x) (sym z) (least n l (sym (elsewhere n q) ∙ e)))
        (λ z. subst (λ (x : Distance). Le (f u) x) (sym z.3) (step_to_above (action_of t z.0) (f u)))
        (r.came n l))

    pub settle : Going t g E
    settle =
        record {
          sound =
              λ n l.
              ⊎_elim
              (λ z. subst (Attained t n) (sym z) (w.sound n l))
              (λ z. subst (Attained t n) (sym z.3) (step_attained z.0 n u (f u) z.1 z.2 (w.sound u lu)))
              (r.came n l);
          goals =
              λ n l e.
              le_antisym _ _ (subst (λ (x : Distance). Le (g n) x) (w.goals n l e) (r.lower n l)) (no_steps_le (g n));
          closed =
              λ a n m h l k e s.
              subst
              (λ (x : Distance). Le (g n) (step_to (action_of t a) x))
              (sym (stays m k (low m k e)))
              (split_eq m u
              (λ q. subst (λ (i : ℕ). Le (g n) (step_to (action_of t a) (f i))) (sym q) (r.every a n h l (s.0, s.1 ∙ q)))
              (λ q. le_trans _ _ _ (r.lower n l) (w.closed a n m h l k (sym (elsewhere m q) ∙ e) s)));
          order =
              λ m n k l e o.
              subst (λ (x : Distance). Le x (g n)) (sym (stays m k (low m k e))) (le_trans _ _ _ (low m k e) (high n l o));
        }

  -- at the end
  pub settled : (f : ℕ → Distance) (D : ℕ → Bool) → Going t f D → ((n : ℕ) → n < state_count t.variables → D n ≡ false → f n ≡ none) → Settled t f
  settled f D w z =
      record {
        sound = w.sound;
        goals = w.goals;
        closed =
            λ a n h l e.
            let m = next_state t a n in
            let k = next_below t valid a n in
            split (D m)
            (λ d. w.closed a n m h l k d (e, refl))
            (λ d. subst (λ (x : Distance). Le (f n) x) (sym (ap (step_to (action_of t a)) (z m k d) ∙ step_to_none (action_of t a))) (le_none (f n)));
      }

  -- at the start
  pub starts : (f : ℕ → Distance) (D : ℕ → Bool)
      → ((n : ℕ) → n < state_count t.variables → all_hold t.goal (state_at t.variables n) ≡ true → f n ≡ some no_steps)
      → ((n : ℕ) → n < state_count t.variables → all_hold t.goal (state_at t.variables n) ≡ false → f n ≡ none)
      → ((n : ℕ) → n < state_count t.variables → D n ≡ false) → Going t f D
  starts f D y o e =
      record {
        sound =
            λ n l.
            split (all_hold t.goal (state_at t.variables n))
            (λ z. inr ([], z, y n l z ∙ ap some (sym (total_none t))))
            (λ z. inl (o n l z));
        goals = y;
        closed = λ a n u h l k d s. clash d (e u k);
        order = λ u n l k d z. clash d (e u l);
      }
