-- Plan files, read against a task of so many actions.
use Rattle.std.specs.Prelude.{ℕ, ◌/◌, List}
use Rattle.files.specs.Outcome.{and_then, Outcome}
use Rattle.files.specs.Records.{body_length, record_end, head_at, numbers_at, sign_off_at, size_fits, numbers_from, number_bytes, record_bytes, signed}

unfoldable pub steps_in : List ℕ → ℕ
steps_in s = body_length s 0 / 2

-- one plan record, one sign-off
unfoldable pub check_plan_file : ℕ → List ℕ → Outcome
check_plan_file actions s =
    size_fits s
    (and_then (head_at s 0 8)
    (and_then (numbers_at actions s 4 (steps_in s))
    (sign_off_at s (record_end s 0))))

-- the list of action numbers that an accepted file holds
unfoldable pub plan_of : List ℕ → List ℕ
plan_of s = numbers_from s 4 (steps_in s)

-- the file of a list of action numbers under a signer
unfoldable pub plan_file : List ℕ → ℕ → List ℕ
plan_file plan signer = signed signer (record_bytes 8 (number_bytes plan))
