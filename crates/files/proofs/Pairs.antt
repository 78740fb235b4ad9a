-- Pairs that stand in a row: what is read there, what was written there, and that they are the task's.
use Prim.Native.Nat.{ℕ, zero, suc, ◌+◌, ◌*◌, ◌≤◌, ◌<◌}
use mathlib.Core.Path.{◌≡◌, refl, ap}
use mathlib.Core.Bool.{true}
use mathlib.Core.List.{List, [], ◌∷◌, ◌++◌}
use native.Mathlib.Omega.{arith}
use lib.ListN.{length}
use Rattle.files.specs.Bytes.{Octets, u16_at, u16_bytes}
use Rattle.files.specs.Task.{Pair, Task, pair, variable_count, size_of}
use Rattle.files.specs.TaskFile.{variables_in, size_at, pair_at, pairs_at, pairs_from, pair_bytes}
use Rattle.files.specs.Accepted.{valid_pairs}
use Rattle.files.proofs.Done.{facts}
use Rattle.files.proofs.Stands.{Stands, stands_none, stands_left, stands_right, stands_join, stands_u16, u16_stands}
use Rattle.files.proofs.Valid.{Valid}
use Rattle.files.proofs.Variables.{States}

pub pairs_length : (s : List ℕ) (at count : ℕ) → length (pairs_from s at count) ≡ count
unfolding pairs_from
pairs_length s at zero = refl
pairs_length s at (suc count) = ap suc (pairs_length s (at + 4) count)

pub pairs_stand : (f : List ℕ) → Octets f → (at count : ℕ) → at + 4 * count ≤ length f → Stands f at (pair_bytes (pairs_from f at count))
unfolding pairs_from pair_bytes u16_bytes
pairs_stand f o at zero h = stands_none f at (omega arith)
pairs_stand f o at (suc count) h =
    stands_join (u16_bytes (u16_at f at) ++ u16_bytes (u16_at f (at + 2))) (pair_bytes (pairs_from f (at + 4) count)) (omega arith)
    (stands_join (u16_bytes (u16_at f at)) (u16_bytes (u16_at f (at + 2))) (omega arith)
    (u16_stands f o at (omega arith))
    (u16_stands f o (at + 2) (omega arith)))
    (pairs_stand f o (at + 4) count (omega arith))

module _ (f : List ℕ) (t : Task) where
  pub pairs_read : Valid t → (at_least : ℕ) (ps : List Pair) (at : ℕ) → Stands f at (pair_bytes ps) → valid_pairs t at_least ps ≡ true → pairs_from f at (length ps) ≡ ps
  unfolding pairs_from pair_bytes u16_bytes valid_pairs
  pairs_read valid at_least [] at s h = refl
  pairs_read valid at_least (p ∷ ps) at s h =
      let first = simp facts at h in
      let both = stands_left (u16_bytes p.variable ++ u16_bytes p.value) (pair_bytes ps) s in
      let few = valid.variables_few in
      let size = valid.size_most p.variable in
      let variable = stands_u16 p.variable (stands_left (u16_bytes p.variable) (u16_bytes p.value) both) (omega arith) in
      let value : u16_at f (at + 2) ≡ p.value =
      stands_u16 p.value (stands_right (u16_bytes p.variable) (u16_bytes p.value) (omega arith) both) (omega arith) in
      let rest =
      pairs_read valid (p.variable + 1) ps (at + 4)
      (stands_right (u16_bytes p.variable ++ u16_bytes p.value) (pair_bytes ps) (omega arith) s)
      first.1.1.1 in
      λ i. pair (variable i) (value i) ∷ rest i

  -- the check is done where the pairs read are the task's, and only there
  module _ (states : States f t) where
    pub pairs_checked : (at_least at count : ℕ) → (pairs_at f at_least at count).number ≡ 0 → valid_pairs t at_least (pairs_from f at count) ≡ true
    unfolding pairs_at pair_at pairs_from valid_pairs
    pairs_checked at_least at zero e = refl
    pairs_checked at_least at (suc count) e =
        let found = simp facts at e in
        let known : u16_at f at < variable_count t = omega (arith, states.count) in
        let inside : u16_at f (at + 2) < size_of t (u16_at f at) = omega (arith, states.size (u16_at f at) known) in
        simp facts (found.0.0, (known, (inside, pairs_checked (u16_at f at + 1) (at + 4) count found.1)))

    pub pairs_pass : (at_least at count : ℕ) → valid_pairs t at_least (pairs_from f at count) ≡ true → (pairs_at f at_least at count).number ≡ 0
    unfolding pairs_at pair_at pairs_from valid_pairs
    pairs_pass at_least at zero e = refl
    pairs_pass at_least at (suc count) e =
        let found = simp facts at e in
        let known : u16_at f at < variables_in f = omega (arith, states.count) in
        let inside : u16_at f (at + 2) < size_at f (u16_at f at) = omega (arith, states.size (u16_at f at) found.1.0) in
        simp facts ((found.0, (known, (inside, refl))), pairs_pass (u16_at f at + 1) (at + 4) count found.1.1.1)
