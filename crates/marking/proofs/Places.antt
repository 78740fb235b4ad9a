-- Places of facts: value d of variable v stands at 32 * v + d.
use Prim.Native.Nat.{ℕ, ◌+◌, ◌*◌, ◌/◌, ◌%◌, ◌<◌}
use mathlib.Core.Path.{◌≡◌, refl}
use mathlib.Core.Bool.{true, ◌&&◌}
use native.Mathlib.Omega.{arith}
use lib.Dec.{eqb, ltb}
use borrow.Author.Tests.{eqb-true, eq-eqb, ltb-true, lt-ltb}
use Rattle.files.specs.Below.{any_below}
use Rattle.files.proofs.Logic.{and_split, and_join}
use Rattle.files.proofs.BelowLaws.{any_below_intro, any_below_elim}
use Rattle.files.proofs.Truth.{same_truth}

module _ (v : ℕ) where
  -- one place, as `set-place` tests it
  pub place_is : (d j : ℕ) → d < 32 → (eqb j (32 * v + d) && true) ≡ (eqb (j / 32) v && eqb (j % 32) d)
  place_is d j h =
      same_truth (eqb j (32 * v + d) && true) (eqb (j / 32) v && eqb (j % 32) d)
      (λ e.
      let is : j ≡ 32 * v + d = eqb-true j (32 * v + d) (and_split (eqb j (32 * v + d)) true e).0 in
      and_join (eq-eqb (j / 32) v (omega arith)) (eq-eqb (j % 32) d (omega arith)))
      (λ e.
      let both = and_split (eqb (j / 32) v) (eqb (j % 32) d) e in
      let over : j / 32 ≡ v = eqb-true (j / 32) v both.0 in
      let rest : j % 32 ≡ d = eqb-true (j % 32) d both.1 in
      and_join (eq-eqb j (32 * v + d) (omega arith)) refl)

  -- the places of the first values of a variable
  pub place_values : (size j : ℕ) → any_below 32 (λ d. eqb j (32 * v + d) && ltb d size) ≡ eqb (j / 32) v && ltb (j % 32) size
  place_values size j =
      same_truth (any_below 32 (λ d. eqb j (32 * v + d) && ltb d size)) (eqb (j / 32) v && ltb (j % 32) size)
      (λ e.
      let k = any_below_elim 32 (λ d. eqb j (32 * v + d) && ltb d size) e in
      let below : k.0 < 32 = k.1 in
      let both = and_split (eqb j (32 * v + k.0)) (ltb k.0 size) k.2 in
      let is : j ≡ 32 * v + k.0 = eqb-true j (32 * v + k.0) both.0 in
      let small : k.0 < size = ltb-true k.0 size both.1 in
      and_join (eq-eqb (j / 32) v (omega arith)) (lt-ltb (j % 32) size (omega arith)))
      (λ e.
      let both = and_split (eqb (j / 32) v) (ltb (j % 32) size) e in
      let over : j / 32 ≡ v = eqb-true (j / 32) v both.0 in
      any_below_intro 32 (λ d. eqb j (32 * v + d) && ltb d size) (j % 32) (omega arith) (and_join (eq-eqb j (32 * v + j % 32) (omega arith)) both.1))
