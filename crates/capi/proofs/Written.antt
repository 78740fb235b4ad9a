-- The numbers of an answer: those of what it holds, or those of its refusal.
use Prim.Native.Nat.{ℕ}
use mathlib.Core.Path.{◌≡◌, ◌∙◌}
use mathlib.Core.List.{List}
use Rattle.std.specs.Prelude.{Result, Ok, Err}
use Rattle.std.specs.Result.{MatchResult}
use Rattle.files.specs.declared.refusals.Refusal.{Refusal}
use Rattle.files.specs.Outcome.{refused}
use Rattle.capi.specs.declared.numbers.Numbers.{Numbers}
use Rattle.capi.specs.Numbers.{listed, outcome_numbers}

pub written : {A : Type 0} (f : Result A Refusal → List ℕ) → ((r : Refusal) → outcome_numbers (refused r) ≡ f (Err r)) → (answer : Result A Refusal) (out : List ℕ)
    → MatchResult answer (λ x. (n : Numbers) × (listed n ≡ f (Ok x)) × (out ≡ listed n)) (λ r. out ≡ outcome_numbers (refused r))
    → out ≡ f answer
written f e (Ok x) out h = h.2 ∙ h.1
written f e (Err r) out h = h ∙ e r
