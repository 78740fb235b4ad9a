-- Records and the sign-off: what every kind of file shares.
use Rattle.std.specs.Prelude.{ℕ, zero, suc, ◌+◌, ◌-◌, ◌%◌, ◌^◌, List, [], ◌∷◌, ◌++◌, length, get_or, leb, ltb, eqb}
use Rattle.files.specs.Bytes.{u16_at, u32_at, u16_bytes, u32_bytes}
use Rattle.files.specs.Outcome.{done, guard, and_then, Outcome}
use Rattle.files.specs.declared.records.Rule.{Rule}

-- every record that is read starts below this offset: no sum of its place and of lengths in it wraps a usize
abbrev pub offset_limit : ℕ
offset_limit = 2 ^ 40

unfoldable pub body_length : List ℕ → ℕ → ℕ
body_length s at = u16_at s at

unfoldable pub kind_at : List ℕ → ℕ → ℕ
kind_at s at = u16_at s (at + 2)

-- where the record at `at` ends: a head of 4 bytes, then the body
unfoldable pub record_end : List ℕ → ℕ → ℕ
record_end s at = at + 4 + body_length s at

-- where the record after `count` records from `at` on stands
unfoldable pub records_end : List ℕ → ℕ → ℕ → ℕ
records_end s at zero = at
records_end s at (suc count) = records_end s (record_end s at) count

abbrev pub rule : ℕ → ℕ → ℕ → Rule
rule least step limit = record { least = least; step = step; limit = limit }

-- a body of exactly this length: no second length is a step away
abbrev pub exactly : ℕ → Rule
exactly n = rule n 65536 n

-- no body at all fits an unknown kind
abbrev pub unknown_kind : Rule
unknown_kind = rule 65536 1 0

-- the body length rule of each kind, 0 to 8; an action's own counts give its length
unfoldable pub body_rule : ℕ → Rule
body_rule kind =
    get_or
    (unknown_kind
    ∷ exactly 4
    ∷ exactly 4
    ∷ rule 0 4 256
    ∷ rule 8 1 65535
    ∷ exactly 8
    ∷ rule 4 2 66
    ∷ rule 0 2 1024
    ∷ rule 0 2 8192
    ∷ [])
    kind
    unknown_kind

-- a body under the rule of its kind: 3 where it is too short or broken, 4 where it has too many entries
unfoldable pub body_fits : Rule → ℕ → ℕ → Outcome
body_fits r bytes at =
    guard (leb r.least bytes) 3 at
    (guard (eqb ((bytes - r.least) % r.step) 0) 3 at
    (guard (leb bytes r.limit) 4 at
    done))

-- the head of the record at `at`, where `kind` is due
unfoldable pub head_at : List ℕ → ℕ → ℕ → Outcome
head_at s at kind =
    guard (leb (at + 4) (length s)) 1 at
    (guard (leb (record_end s at) (length s)) 1 at
    (guard (eqb (kind_at s at) kind) 2 at
    (body_fits (body_rule kind) (body_length s at) at)))

-- `count` numbers of 2 bytes, each below the limit
unfoldable pub numbers_at : ℕ → List ℕ → ℕ → ℕ → Outcome
numbers_at limit s at zero = done
numbers_at limit s at (suc count) =
    guard (ltb (u16_at s at) limit) 5 at
    (numbers_at limit s (at + 2) count)

-- the sign-off: a signer that is not 0, the count of bytes before it, and nothing behind it
unfoldable pub sign_off_at : List ℕ → ℕ → Outcome
sign_off_at s at =
    and_then (head_at s at 5)
    (guard (leb 1 (u32_at s (at + 4))) 7 (at + 4)
    (guard (eqb (u32_at s (at + 8)) at) 7 (at + 8)
    (guard (eqb (length s) (at + 12)) 2 (at + 12)
    done)))

-- the size limit stands before all else
unfoldable pub size_fits : List ℕ → Outcome → Outcome
size_fits s rest = guard (leb (length s) 65536) 4 0 rest

-- the signer of an accepted file, whose last 12 bytes are its sign-off
unfoldable pub signer_of : List ℕ → ℕ
signer_of s = u32_at s (length s - 8)

-- `count` numbers of 2 bytes
unfoldable pub numbers_from : List ℕ → ℕ → ℕ → List ℕ
numbers_from s at zero = []
numbers_from s at (suc count) = u16_at s at ∷ numbers_from s (at + 2) count

unfoldable pub number_bytes : List ℕ → List ℕ
number_bytes [] = []
number_bytes (n ∷ ns) = u16_bytes n ++ number_bytes ns

-- a record as bytes
unfoldable pub record_bytes : ℕ → List ℕ → List ℕ
record_bytes kind body = u16_bytes (length body) ++ u16_bytes kind ++ body

-- records with the sign-off behind them: a file
unfoldable pub signed : ℕ → List ℕ → List ℕ
signed signer records = records ++ record_bytes 5 (u32_bytes signer ++ u32_bytes (length records))
