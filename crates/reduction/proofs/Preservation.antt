-- What a task's plans and best plans have to do with those of a task that corresponds to it; the reduced task of a closed
-- marking preserves them.
use Prim.Native.Nat.{ℕ}
use mathlib.Core.Path.{◌≡◌, sym, ap, subst, subst⁻¹, ◌∙◌}
use mathlib.Core.Bool.{Bool, true}
use mathlib.Core.List.{List, map}
use Rattle.files.specs.Task.{Task}
use Rattle.files.proofs.Valid.{Valid}
use Rattle.plans.specs.Plan.{IsPlan, Total, total_of, at_most, Best, not_after, FirstBest}
use Rattle.plans.proofs.OrderLaws.{at_most_antisym}
use Rattle.plans.proofs.RunLaws.{runs_plan}
use Rattle.marking.specs.Marks.{kept, relevant}
use Rattle.marking.specs.Links.{linked}
use Rattle.marking.specs.Rounds.{marking}
use Rattle.marking.proofs.Closed.{Closed, AllKept}
use Rattle.marking.proofs.Relevance.{plan_beside, best_kept, best_among_kept}
use Rattle.marking.proofs.MarkingClosed.{marking_closed}
use Rattle.reduction.specs.ReducedBy.{reduced_by, kept_at}
use Rattle.reduction.specs.Preserved.{Preserves}
use Rattle.reduction.proofs.KeptActions.{original_of, reduced_of}
use Rattle.reduction.proofs.Correspondence.{Corresponds}
use Rattle.reduction.proofs.ReducedCorresponds.{reduced_corresponds}

-- two best plans have the same total
pub best_alike : (t : Task) (p q : List ℕ) → Best t p → Best t q → total_of t p ≡ total_of t q
best_alike t p q a b = at_most_antisym (total_of t p) (total_of t q) (a.least q b.is_plan) (b.least p a.is_plan)

-- the actions of A suffice for plans and for best plans
pub record Suffices (t : Task) (A : ℕ → Bool) : Type 0 where
  pub plan : (p : List ℕ) → IsPlan t p → (q : List ℕ) × IsPlan t q × AllKept A q
  pub best : (p : List ℕ) → Best t p → AllKept A p
  pub among : (p : List ℕ) → IsPlan t p → ((q : List ℕ) → IsPlan t q → AllKept A q → at_most (total_of t p) (total_of t q) ≡ true) → Best t p

module _ (t u : Task) (A : ℕ → Bool) (same : Corresponds t u A) (enough : Suffices t A) where
  abbrev back : List ℕ → List ℕ
  back q = map (original_of t A) q

  abbrev there : List ℕ → List ℕ
  there p = map (reduced_of A) p

  total_there : (p : List ℕ) → IsPlan t p → AllKept A p → total_of t p ≡ total_of u (there p)
  total_there p h k = ap (total_of t) (sym (same.there_back p h k)) ∙ same.total (there p) (same.there p h k)

  best_is_back : (q : List ℕ) → Best u q → Best t (back q)
  best_is_back q b =
      enough.among (back q) (same.back q b.is_plan)
      (λ p h k.
      subst (λ (x : Total). at_most x (total_of t p) ≡ true) (sym (same.total q b.is_plan))
      (subst (λ (x : Total). at_most (total_of u q) x ≡ true) (sym (total_there p h k)) (b.least (there p) (same.there p h k))))

  best_is_there : (p : List ℕ) → Best t p → (q : List ℕ) × (p ≡ back q) × Best u q
  best_is_there p b =
      let k = enough.best p b in (
        there p,
        sym (same.there_back p b.is_plan k),
        record {
          is_plan = same.there p b.is_plan k;
          least =
              λ q h.
              subst (λ (x : Total). at_most x (total_of u q) ≡ true) (total_there p b.is_plan k)
              (subst (λ (x : Total). at_most (total_of t p) x ≡ true) (same.total q h) (b.least (back q) (same.back q h)));
        },
      )

  first_is_back : (q : List ℕ) → FirstBest u q → FirstBest t (back q)
  first_is_back q f =
      record {
        best = best_is_back q f.best;
        first =
            λ p b.
            let k = best_is_there p b in
            subst⁻¹ (λ (x : List ℕ). not_after (back q) x ≡ true) k.1
            (same.order q k.0 f.best.is_plan k.2.is_plan (f.first k.0 k.2));
      }

  pub corresponds_preserves : Preserves t u (map (original_of t A))
  corresponds_preserves =
      record {
        solvable = ((λ h. let k = enough.plan h.0 h.1 in (there k.0, same.there k.0 k.1 k.2)), (λ h. (back h.0, same.back h.0 h.1)));
        least =
            λ p q bp bq.
            let k = best_is_there p bp in
            ap (total_of t) k.1 ∙ same.total k.0 k.2.is_plan ∙ best_alike u k.0 q k.2 bq;
        best_back = best_is_back;
        best_there = best_is_there;
        first_back = first_is_back;
        plan_back = λ q h. (same.back q h, same.total q h);
      }

-- the kept actions of a closed marking suffice
closed_suffices : (t : Task) (A : ℕ → Bool) (F L : ℕ → ℕ → Bool) → Closed t A F L → Suffices t A
closed_suffices t A F L closed =
    record {
      plan = λ p h. let k = plan_beside t A F L closed p h in (k.list, runs_plan t k.list k.runs, k.kept);
      best = best_kept t A F L closed;
      among = best_among_kept t A F L closed;
    }

pub closed_preserves : (t : Task) → Valid t → (A : ℕ → Bool) (F L : ℕ → ℕ → Bool) → Closed t A F L → Preserves t (reduced_by t A) (map (original_of t A))
closed_preserves t ok A F L closed = corresponds_preserves t (reduced_by t A) A (reduced_corresponds t A ok) (closed_suffices t A F L closed)

-- the actions kept at a level of marking
pub kept_preserves : (t : Task) (level : ℕ) → Valid t → Preserves t (reduced_by t (kept_at t level)) (map (original_of t (kept_at t level)))
unfolding kept_at
kept_preserves t level v =
    let m = (marking t level).marks in
    closed_preserves t v (kept m) (relevant m) (linked t level (kept m)) (marking_closed t v level)
