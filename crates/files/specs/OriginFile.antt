-- Origin files: which variable, values and actions of the full task a reduced task's are.
use Rattle.std.specs.Prelude.{ℕ, zero, suc, ◌+◌, ◌-◌, ◌/◌, cond, List, [], ◌∷◌, ◌++◌, leb, ltb, eqb}
use Rattle.files.specs.Bytes.{u16_at, u16_bytes}
use Rattle.files.specs.Outcome.{done, guard, and_then, Outcome}
use Rattle.files.specs.Records.{body_length, kind_at, record_end, records_end, head_at, numbers_at, sign_off_at, size_fits, numbers_from, number_bytes, record_bytes, signed}

-- a kept variable by its original number, and the new value of each of its old values
pub record VariableOrigin : Type 0 where
  pub variable : ℕ
  pub values : List ℕ

pub record Origin : Type 0 where
  pub variables : List VariableOrigin
  pub actions : List ℕ

-- how many values the variable origin at `at` gives
unfoldable pub values_in : List ℕ → ℕ → ℕ
values_in s at = (body_length s at - 2) / 2

-- the variable origin at `at`, whose variable is to be at least `at_least`
unfoldable pub variable_origin_at : List ℕ → ℕ → ℕ → Outcome
variable_origin_at s at_least at =
    and_then (head_at s at 6)
    (guard (leb at_least (u16_at s (at + 4))) 6 (at + 4)
    (guard (ltb (u16_at s (at + 4)) 64) 5 (at + 4)
    (numbers_at 32 s (at + 6) (values_in s at))))

unfoldable pub variable_origins_at : List ℕ → ℕ → ℕ → ℕ → Outcome
variable_origins_at s at_least at zero = done
variable_origins_at s at_least at (suc count) =
    and_then (variable_origin_at s at_least at)
    (variable_origins_at s (u16_at s (at + 4) + 1) (record_end s at) count)

-- `count` rising numbers of original actions, the first at least `at_least`
unfoldable pub action_origins_at : List ℕ → ℕ → ℕ → ℕ → Outcome
action_origins_at s at_least at zero = done
action_origins_at s at_least at (suc count) =
    guard (leb at_least (u16_at s at)) 6 at
    (guard (ltb (u16_at s at) 512) 5 at
    (action_origins_at s (u16_at s at + 1) (at + 2) count))

-- how many records of kind 6 stand in a row from `at` on, counted up to a bound
unfoldable pub variable_origins_from : List ℕ → ℕ → ℕ → ℕ
variable_origins_from s at zero = 0
variable_origins_from s at (suc bound) =
    let more = suc (variable_origins_from s (record_end s at) bound) in
    cond (eqb (kind_at s at) 6) more 0

-- of 65 such records one has a number that does not rise or is not below 64
unfoldable pub origin_variables_in : List ℕ → ℕ
origin_variables_in s = variable_origins_from s 0 65

-- the record of kind 7
unfoldable pub origin_actions_place : List ℕ → ℕ
origin_actions_place s = records_end s 0 (origin_variables_in s)

-- variable origins, one record of action origins, one sign-off
unfoldable pub check_origin : List ℕ → Outcome
check_origin s =
    size_fits s
    (and_then (variable_origins_at s 0 0 (origin_variables_in s))
    (and_then (head_at s (origin_actions_place s) 7)
    (and_then (action_origins_at s 0 (origin_actions_place s + 4) (body_length s (origin_actions_place s) / 2))
    (sign_off_at s (record_end s (origin_actions_place s))))))

unfoldable pub origins_from : List ℕ → ℕ → ℕ → List VariableOrigin
origins_from s at zero = []
origins_from s at (suc count) =
    record { variable = u16_at s (at + 4); values = numbers_from s (at + 6) (values_in s at) }
    ∷ origins_from s (record_end s at) count

-- the origins that an accepted file holds
unfoldable pub origin_of : List ℕ → Origin
origin_of s =
    record {
      variables = origins_from s 0 (origin_variables_in s);
      actions = numbers_from s (origin_actions_place s + 4) (body_length s (origin_actions_place s) / 2);
    }

unfoldable pub origin_body : VariableOrigin → List ℕ
origin_body o = u16_bytes o.variable ++ number_bytes o.values

unfoldable pub variable_origin_bytes : List VariableOrigin → List ℕ
variable_origin_bytes [] = []
variable_origin_bytes (o ∷ os) = record_bytes 6 (origin_body o) ++ variable_origin_bytes os

-- the file of origins under a signer
unfoldable pub origin_file : Origin → ℕ → List ℕ
origin_file o signer = signed signer (variable_origin_bytes o.variables ++ record_bytes 7 (number_bytes o.actions))
