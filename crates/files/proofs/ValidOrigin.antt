-- What accepted origins are, as facts about their variables and actions.
use Prim.Native.Nat.{ℕ, ◌≤◌}
use mathlib.Core.Path.{◌≡◌}
use mathlib.Core.Bool.{true}
use mathlib.Core.List.{List, map}
use native.Mathlib.Omega.{arith}
use lib.ListN.{length, length-map}
use Rattle.files.specs.Below.{all_of}
use Rattle.files.specs.OriginFile.{VariableOrigin, Origin}
use Rattle.files.specs.Accepted.{rising, valid_values, accepted_origin}
use Rattle.files.proofs.Done.{facts}
use Rattle.files.proofs.Rising.{rising_few}

-- the original numbers of variables
abbrev pub numbers_of : List VariableOrigin → List ℕ
numbers_of vs = map (λ v. v.variable) vs

pub record ValidOrigin (o : Origin) : Type 0 where
  pub variables_few : length o.variables ≤ 64
  pub actions_few : length o.actions ≤ 512
  pub variables_rise : rising 64 0 (numbers_of o.variables) ≡ true
  pub variables : all_of valid_values o.variables ≡ true
  pub actions_rise : rising 512 0 o.actions ≡ true

pub origin_valid : (o : Origin) → accepted_origin o ≡ true → ValidOrigin o
unfolding accepted_origin
origin_valid o a =
    let parts = simp facts at a in
    record {
      variables_few = omega (arith, rising_few 64 0 (numbers_of o.variables) (omega arith) parts.0, length-map o.variables (λ v. v.variable));
      actions_few = omega (arith, rising_few 512 0 o.actions (omega arith) parts.1.1);
      variables_rise = parts.0;
      variables = parts.1.0;
      actions_rise = parts.1.1;
    }
