-- Numbers that strictly rise below a limit, and the check of such numbers.
use Prim.Native.Nat.{ℕ, zero, suc, ◌+◌, ◌≤◌}
use mathlib.Core.Path.{◌≡◌, refl}
use mathlib.Core.Bool.{true}
use mathlib.Core.List.{List, [], ◌∷◌}
use native.Mathlib.Omega.{arith}
use lib.ListN.{length}
use Rattle.files.specs.Bytes.{u16_at}
use Rattle.files.specs.Records.{numbers_from}
use Rattle.files.specs.OriginFile.{action_origins_at}
use Rattle.files.specs.Accepted.{rising}
use Rattle.files.proofs.Done.{facts}
use Rattle.files.proofs.Numbers.{all_under}

module _ (limit : ℕ) where
  -- there are at most as many as numbers from `at_least` on
  pub rising_few : (at_least : ℕ) (ns : List ℕ) → at_least ≤ limit → rising limit at_least ns ≡ true → at_least + length ns ≤ limit
  unfolding rising
  rising_few at_least [] l h = omega arith
  rising_few at_least (n ∷ ns) l h =
      let first = simp facts at h in
      omega (arith, rising_few (n + 1) ns (omega arith) first.1.1)

  pub rising_under : (at_least : ℕ) (ns : List ℕ) → rising limit at_least ns ≡ true → all_under limit ns ≡ true
  unfolding rising
  rising_under at_least [] h = refl
  rising_under at_least (n ∷ ns) h =
      let first = simp facts at h in
      simp facts (first.1.0, rising_under (n + 1) ns first.1.1)

-- the check of action origins is done where they rise, and only there
module _ (f : List ℕ) where
  pub action_origins_checked : (at_least at count : ℕ) → (action_origins_at f at_least at count).number ≡ 0 → rising 512 at_least (numbers_from f at count) ≡ true
  unfolding action_origins_at numbers_from rising
  action_origins_checked at_least at zero e = refl
  action_origins_checked at_least at (suc count) e =
      let found = simp facts at e in
      simp facts (found.0, (found.1.0, action_origins_checked (u16_at f at + 1) (at + 2) count found.1.1))

  pub action_origins_pass : (at_least at count : ℕ) → rising 512 at_least (numbers_from f at count) ≡ true → (action_origins_at f at_least at count).number ≡ 0
  unfolding action_origins_at numbers_from rising
  action_origins_pass at_least at zero e = refl
  action_origins_pass at_least at (suc count) e =
      let found = simp facts at e in
      simp facts (found.0, (found.1.0, action_origins_pass (u16_at f at + 1) (at + 2) count found.1.1))
