-- A rule of a table: one test that the checker computes over all entries, and the law by which each entry has it.
use Prim.Native.Nat.{ℕ, zero, suc, ◌+◌, ◌<◌}
use mathlib.Core.Path.{◌≡◌, refl, ap, ◌∙◌}
use mathlib.Core.Bool.{Bool, true, false, cond, ◌&&◌}
use mathlib.Core.List.{List, [], ◌∷◌}
use native.Mathlib.Omega.{arith}
use lib.Dec.{eqb}
use lib.ListN.{length, get_or}
use borrow.Author.Tests.{eqb-true}

-- each entry is what the rule says of its place, and the first stands at place i
abbrev pub follows : (ℕ → ℕ) → ℕ → List ℕ → Bool
follows rule i [] = true
follows rule i (x ∷ xs) = eqb x (rule i) && follows rule (suc i) xs

both : (a b : Bool) → a && b ≡ true → (a ≡ true) × (b ≡ true)
both true b e = (refl, e)
both false b e = absurd (let z : ◌≡◌ {A = ℕ} 0 1 = ap (λ (t : Bool). cond t 1 0) e in omega arith)

from : (rule : ℕ → ℕ) (xs : List ℕ) (i : ℕ) → follows rule i xs ≡ true → (k : ℕ) → k < length xs → get_or xs k 0 ≡ rule (i + k)
from rule [] i e k h = absurd (omega (arith, h))
from rule (x ∷ xs) i e zero h =
    let passes = both (eqb x (rule i)) (follows rule (suc i) xs) e in
    eqb-true x (rule i) passes.0 ∙ ap rule (omega arith)
from rule (x ∷ xs) i e (suc k) h =
    let passes = both (eqb x (rule i)) (follows rule (suc i) xs) e in
    from rule xs (suc i) passes.1 k (omega (arith, h)) ∙ ap rule (omega arith)

pub entry_follows : (rule : ℕ → ℕ) (xs : List ℕ) → follows rule 0 xs ≡ true → (k : ℕ) → k < length xs → get_or xs k 0 ≡ rule k
entry_follows rule xs e k h = from rule xs 0 e k h ∙ ap rule (omega arith)
