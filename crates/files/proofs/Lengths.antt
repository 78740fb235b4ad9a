-- How many bytes each part of a file takes.
use Prim.Native.Nat.{ℕ, zero, suc, ◌+◌, ◌*◌}
use mathlib.Core.Path.{◌≡◌, refl, ap₂, ◌∙◌}
use mathlib.Core.List.{List, [], ◌∷◌, ◌++◌}
use native.Mathlib.Omega.{arith}
use lib.ListN.{length, get_or, length-append}
use Rattle.files.specs.Below.{tabulate_from}
use Rattle.files.specs.Bytes.{u16_bytes, u32_bytes}
use Rattle.files.specs.Records.{record_bytes, number_bytes, signed}
use Rattle.files.specs.Task.{Pair, Variable, Action, Task, variable_count}
use Rattle.files.specs.TaskFile.{pair_bytes, variable_bytes, action_body, action_bytes, task_records, task_file}
use Rattle.files.specs.OriginFile.{VariableOrigin, origin_body, variable_origin_bytes, origin_file}
use Rattle.files.specs.PlanFile.{plan_file}
use Rattle.files.specs.Dense.{row_variable, row_action, held, row_origin, held_origin}
use Rattle.files.specs.declared.arrays.Arrays.{Arrays}
use Rattle.files.specs.declared.arrays.OriginArrays.{OriginArrays}
use Rattle.files.specs.Lengths.{action_needed, actions_needed, task_needed, origins_needed, origin_needed}
use Rattle.files.proofs.Tabulate.{tabulate_from_length}
use Rattle.files.proofs.RowLaws.{row_numbers_length}

-- numbers, records and what is signed
pub u16_bytes_length : (n : ℕ) → length (u16_bytes n) ≡ 2
unfolding u16_bytes
u16_bytes_length n = refl

pub u32_bytes_length : (n : ℕ) → length (u32_bytes n) ≡ 4
unfolding u32_bytes u16_bytes
u32_bytes_length n = refl

pub number_bytes_length : (ns : List ℕ) → length (number_bytes ns) ≡ 2 * length ns
unfolding number_bytes u16_bytes
number_bytes_length [] = refl
number_bytes_length (n ∷ ns) = omega (arith, number_bytes_length ns)

pub record_bytes_length : (kind : ℕ) (body : List ℕ) → length (record_bytes kind body) ≡ 4 + length body
unfolding record_bytes u16_bytes
record_bytes_length kind body = omega arith

pub number_record_length : (kind : ℕ) (ns : List ℕ) → length (record_bytes kind (number_bytes ns)) ≡ 4 + 2 * length ns
number_record_length kind ns = omega (arith, record_bytes_length kind (number_bytes ns), number_bytes_length ns)

pub signed_length : (signer : ℕ) (records : List ℕ) → length (signed signer records) ≡ length records + 12
unfolding signed record_bytes u32_bytes u16_bytes
signed_length signer records = length-append records (record_bytes 5 (u32_bytes signer ++ u32_bytes (length records)))

-- tasks
pub pair_bytes_length : (ps : List Pair) → length (pair_bytes ps) ≡ 4 * length ps
unfolding pair_bytes u16_bytes
pair_bytes_length [] = refl
pair_bytes_length (p ∷ ps) = omega (arith, pair_bytes_length ps)

pub variable_bytes_length : (vs : List Variable) → length (variable_bytes vs) ≡ 8 * length vs
unfolding variable_bytes record_bytes u16_bytes
variable_bytes_length [] = refl
variable_bytes_length (v ∷ vs) = omega (arith, variable_bytes_length vs)

pub action_body_length : (a : Action) → length (action_body a) ≡ 8 + 4 * length a.conditions + 4 * length a.effects
unfolding action_body u32_bytes u16_bytes
action_body_length a =
    omega (
      arith,
      length-append (pair_bytes a.conditions) (pair_bytes a.effects),
      pair_bytes_length a.conditions,
      pair_bytes_length a.effects,
    )

pub task_records_length : (t : Task) → length (task_records t) ≡ 12 + 8 * variable_count t + 4 * length t.goal + length (action_bytes t.actions)
unfolding task_records
task_records_length t =
    simp (length-append, record_bytes_length, u16_bytes_length, variable_bytes_length, pair_bytes_length) (omega arith)

-- tasks that arrays hold
pub row_action_length : (variables : ℕ) (costs conditions effects : List ℕ) (a : ℕ)
    → length (record_bytes 4 (action_body (row_action variables costs conditions effects a))) ≡ action_needed variables conditions effects a
unfolding row_action action_needed
row_action_length variables costs conditions effects a =
    let action = row_action variables costs conditions effects a in
    omega (arith, record_bytes_length 4 (action_body action), action_body_length action)

pub action_bytes_length : (variables : ℕ) (costs conditions effects : List ℕ) (a count : ℕ)
    → length (action_bytes (tabulate_from a count (row_action variables costs conditions effects))) ≡ actions_needed variables conditions effects a count
unfolding action_bytes actions_needed
action_bytes_length variables costs conditions effects a zero = refl
action_bytes_length variables costs conditions effects a (suc count) =
    let action = row_action variables costs conditions effects in
    length-append (record_bytes 4 (action_body (action a))) (action_bytes (tabulate_from (a + 1) count action))
    ∙ ap₂ (λ (m n : ℕ). m + n) (row_action_length variables costs conditions effects a) (action_bytes_length variables costs conditions effects (a + 1) count)

pub task_file_length : (d : Arrays) (signer : ℕ) → length (task_file (held d) signer) ≡ task_needed d.variables d.actions d.goal d.conditions d.effects
unfolding task_file held task_needed
task_file_length d signer =
    omega (
      arith,
      signed_length signer (task_records (held d)),
      task_records_length (held d),
      tabulate_from_length (row_variable d.sizes d.starts) 0 d.variables,
      action_bytes_length d.variables d.costs d.conditions d.effects 0 d.actions,
    )

-- origins
pub origin_body_length : (v : VariableOrigin) → length (origin_body v) ≡ 2 + 2 * length v.values
unfolding origin_body u16_bytes
origin_body_length v = omega (arith, number_bytes_length v.values)

-- origins that arrays hold
pub row_origin_length : (numbers sizes values : List ℕ) (i : ℕ) → length (record_bytes 6 (origin_body (row_origin numbers sizes values i))) ≡ 6 + 2 * get_or sizes i 0
unfolding row_origin
row_origin_length numbers sizes values i =
    simp (record_bytes_length, origin_body_length, row_numbers_length) (omega arith)

pub variable_origin_bytes_length : (numbers sizes values : List ℕ) (i count : ℕ)
    → length (variable_origin_bytes (tabulate_from i count (row_origin numbers sizes values))) ≡ origins_needed sizes i count
unfolding variable_origin_bytes origins_needed
variable_origin_bytes_length numbers sizes values i zero = refl
variable_origin_bytes_length numbers sizes values i (suc count) =
    let origin = row_origin numbers sizes values in
    length-append (record_bytes 6 (origin_body (origin i))) (variable_origin_bytes (tabulate_from (i + 1) count origin))
    ∙ ap₂ (λ (m n : ℕ). m + n) (row_origin_length numbers sizes values i) (variable_origin_bytes_length numbers sizes values (i + 1) count)

pub origin_file_length : (d : OriginArrays) (signer : ℕ) → length (origin_file (held_origin d) signer) ≡ origin_needed d.variables d.actions d.sizes
unfolding origin_file held_origin origin_needed
origin_file_length d signer =
    simp (
      signed_length,
      length-append,
      number_record_length,
      row_numbers_length,
      variable_origin_bytes_length d.numbers d.sizes d.values 0 d.variables,
    )
    (omega arith)

-- plans
pub plan_file_length : (plan : List ℕ) (signer : ℕ) → length (plan_file plan signer) ≡ 16 + 2 * length plan
unfolding plan_file
plan_file_length plan signer = omega (arith, signed_length signer (record_bytes 8 (number_bytes plan)), number_record_length 8 plan)
