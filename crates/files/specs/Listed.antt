-- The outcomes that a call can give: done, or one of its refusals, each with its number, its file and its place.
use Rattle.std.specs.Prelude.{ℕ, Bool, cond, ◌&&◌, List, [], ◌∷◌, map, eqb, leb, length}
use Rattle.files.specs.Outcome.{Outcome, is_done}
use Rattle.files.specs.Below.{any_of}

-- a refusal that a call can give: its number, its file, and the places that it can have
pub record Refusal : Type 0 where
  pub number : ℕ
  pub file : ℕ
  pub place : ℕ → Bool

unfoldable pub gives : Outcome → Refusal → Bool
gives o r = eqb o.number r.number && (eqb o.file r.file && r.place o.place)

-- done, which has no file and no place; or one of the refusals
unfoldable pub listed : List Refusal → Outcome → Bool
listed refusals o = cond (is_done o) (eqb o.file 0 && eqb o.place 0) (any_of (gives o) refusals)

-- at one place, and in no second file
abbrev pub refused_at : ℕ → ℕ → Refusal
refused_at number place = record { number = number; file = 0; place = eqb place }

-- 21: the place is the length needed
abbrev pub short : ℕ → Refusal
short needed = refused_at 21 needed

-- at an offset in a file of so many bytes
abbrev pub in_file : ℕ → ℕ → ℕ → Refusal
in_file file bytes number = record { number = number; file = file; place = λ place. leb place bytes }

-- the refusals of a file: the first that is handed in is file 0, the second is file 1
unfoldable pub file_refusals : ℕ → List ℕ → List Refusal
file_refusals file s = map (in_file file (length s)) (1 ∷ 2 ∷ 3 ∷ 4 ∷ 5 ∷ 6 ∷ 7 ∷ [])
