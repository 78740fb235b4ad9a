-- What is preserved from task to task is preserved from the first to the last; and only the numbers of plans matter.
use Prim.Native.Nat.{ℕ, suc, ◌<◌}
use mathlib.Core.Path.{◌≡◌, refl, sym, ap, ap₂, subst, ◌∙◌}
use mathlib.Core.List.{List, [], ◌∷◌, map}
use native.Mathlib.Omega.{arith}
use lib.ListN.{length, get_or}
use Rattle.files.specs.Below.{tabulate}
use Rattle.files.specs.Task.{Task}
use Rattle.files.proofs.BelowLaws.{map_entry}
use Rattle.files.proofs.Tabulate.{tabulate_entry}
use Rattle.plans.specs.Plan.{IsPlan, total_of, Best, FirstBest}
use Rattle.reduction.specs.Preserved.{Preserves}
use Rattle.reduction.proofs.Preservation.{best_alike}

pub preserves_self : (t : Task) → Preserves t t (λ q. q)
preserves_self t =
    record {
      solvable = ((λ h. h), (λ h. h));
      least = best_alike t;
      best_back = λ q b. b;
      best_there = λ p b. (p, refl, b);
      first_back = λ q b. b;
      plan_back = λ q h. (h, refl);
    }

pub preserves_composes : (t u w : Task) (f g : List ℕ → List ℕ) → Preserves t u f → Preserves u w g → Preserves t w (λ q. f (g q))
preserves_composes t u w f g first second =
    record {
      solvable = ((λ h. second.solvable.0 (first.solvable.0 h)), (λ h. first.solvable.1 (second.solvable.1 h)));
      least =
          λ p r bp br.
          let k = first.best_there p bp in
          first.least p k.0 bp k.2 ∙ second.least k.0 r k.2 br;
      best_back = λ r b. first.best_back (g r) (second.best_back r b);
      best_there =
          λ p b.
          let k = first.best_there p b in
          let l = second.best_there k.0 k.2 in
          (l.0, k.1 ∙ ap f l.1, l.2);
      first_back = λ r b. first.first_back (g r) (second.first_back r b);
      plan_back =
          λ r h.
          let k = second.plan_back r h in
          let l = first.plan_back (g r) k.0 in
          (l.0, l.1 ∙ k.1);
    }

pub preserves_alike : (t u : Task) (f g : List ℕ → List ℕ) → ((q : List ℕ) → IsPlan u q → f q ≡ g q) → Preserves t u f → Preserves t u g
preserves_alike t u f g same k =
    record {
      solvable = k.solvable;
      least = k.least;
      best_back = λ q b. subst (Best t) (same q b.is_plan) (k.best_back q b);
      best_there = λ p b. let l = k.best_there p b in (l.0, l.1 ∙ same l.0 l.2.is_plan, l.2);
      first_back = λ q b. subst (FirstBest t) (same q b.best.is_plan) (k.first_back q b);
      plan_back =
          λ q h.
          let l = k.plan_back q h in
          let e = same q h in
          (subst (IsPlan t) e l.0, sym (ap (total_of t) e) ∙ l.1);
    }

-- numbers looked up in the list of all numbers
pub looked_up_own : (n : ℕ) (q : List ℕ) → ((i : ℕ) → i < length q → get_or q i 0 < n) → q ≡ map (λ a. get_or (tabulate n (λ i. i)) a 0) q
looked_up_own n [] h = refl
looked_up_own n (a ∷ q) h =
    ap₂ (λ (m : ℕ) (ms : List ℕ). m ∷ ms) (sym (tabulate_entry (λ i. i) n a 0 (h 0 (omega arith)))) (looked_up_own n q (λ i l. h (suc i) (omega arith)))

-- numbers looked up in a list that was itself looked up
pub looked_up_twice : (xs ys q : List ℕ) → ((i : ℕ) → i < length q → get_or q i 0 < length ys)
    → map (λ n. get_or xs n 0) (map (λ n. get_or ys n 0) q) ≡ map (λ n. get_or (map (λ m. get_or xs m 0) ys) n 0) q
looked_up_twice xs ys [] h = refl
looked_up_twice xs ys (n ∷ q) h =
    ap₂ (λ (m : ℕ) (ms : List ℕ). m ∷ ms)
    (sym (map_entry (λ m. get_or xs m 0) ys n 0 0 (h 0 (omega arith))))
    (looked_up_twice xs ys q (λ i l. h (suc i) (omega arith)))
