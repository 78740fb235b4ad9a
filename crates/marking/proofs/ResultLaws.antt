-- Marks as they are written: a byte at a time, and a variable's bytes behind those of the variables before it.
use Prim.Native.Nat.{ℕ, zero, suc, ◌+◌, ◌*◌}
use mathlib.Core.Path.{◌≡◌, refl, sym, ap, ◌∙◌}
use mathlib.Core.List.{List, [], ◌∷◌, ◌++◌}
use native.Mathlib.Omega.{arith}
use native.Mathlib.Numerals.{add-one}
use native.Mathlib.Nat.{add-zero, zero-add}
use lib.ListN.{length, get_or, set, length-append}
use Rattle.files.specs.Below.{tabulate_from, tabulate, join_below, sum_below, sum_of}
use Rattle.files.specs.Bytes.{placed}
use Rattle.files.proofs.Placed.{placed_then}
use Rattle.files.proofs.Tabulate.{tabulate_from_length}
use Rattle.marking.specs.Dense.{fact_byte, fact_bytes}

-- one entry more
module _ (f : ℕ → ℕ) where
  tabulate_from_more : (i n : ℕ) → tabulate_from i (suc n) f ≡ tabulate_from i n f ++ (f (i + n) ∷ [])
  tabulate_from_more i zero = ap (λ (k : ℕ). f k ∷ []) (sym (add-zero i))
  tabulate_from_more i (suc n) =
      ap (λ l. f i ∷ l)
      (tabulate_from_more (i + 1) n ∙ ap (λ (k : ℕ). tabulate_from (i + 1) n f ++ (f k ∷ [])) (omega arith))

  tabulate_more : (n : ℕ) → tabulate (n + 1) f ≡ tabulate n f ++ (f n ∷ [])
  tabulate_more n = rw (add-one n) (tabulate_from_more 0 n ∙ ap (λ (k : ℕ). tabulate n f ++ (f k ∷ [])) (zero-add n))

  -- a loop that writes a byte a turn: behind the bytes that stand comes the next
  pub byte_next : (old now : List ℕ) (at n place x : ℕ) → now ≡ placed old at (tabulate n f) → place ≡ at + n → x ≡ f n → set now place x ≡ placed old at (tabulate (n + 1) f)
  unfolding placed
  byte_next old now at n place x e h is =
      placed_then old now at place (tabulate n f) (x ∷ []) e (omega (arith, tabulate_from_length f 0 n))
      ∙ ap (λ (y : ℕ). placed old at (tabulate n f ++ (y ∷ []))) is
      ∙ ap (placed old at) (sym (tabulate_more n))

row_length : (facts unlinked : List ℕ) (v size : ℕ) → length (fact_bytes facts unlinked v size) ≡ size
unfolding fact_bytes
row_length facts unlinked v size =
    tabulate_from_length (λ d. fact_byte (get_or facts (32 * v + d) 0) (get_or unlinked (32 * v + d) 0)) 0 size

pub joined_length : (f : ℕ → List ℕ) (sizes : ℕ → ℕ) (n : ℕ) → ((v : ℕ) → length (f v) ≡ sizes v) → length (join_below n f) ≡ sum_below n sizes
joined_length f sizes zero h = refl
joined_length f sizes (suc n) h = length-append (join_below n f) (f n) ∙ omega (arith, joined_length f sizes n h, h n)

-- a loop that writes a variable's bytes a turn
pub facts_next : (facts unlinked sizes old now next : List ℕ) (v at : ℕ)
    → now ≡ placed old 0 (join_below v (λ w. fact_bytes facts unlinked w (get_or sizes w 0)))
    → at ≡ sum_of sizes v
    → next ≡ placed now at (fact_bytes facts unlinked v (get_or sizes v 0))
    → next ≡ placed old 0 (join_below (v + 1) (λ w. fact_bytes facts unlinked w (get_or sizes w 0)))
unfolding sum_of
facts_next facts unlinked sizes old now next v at e h p =
    let marks : ℕ → List ℕ = λ w. fact_bytes facts unlinked w (get_or sizes w 0) in
    rw (add-one v)
    (p
    ∙ placed_then old now 0 at (join_below v marks) (marks v) e
    (omega (arith, joined_length marks (λ w. get_or sizes w 0) v (λ w. row_length facts unlinked w (get_or sizes w 0)))))
