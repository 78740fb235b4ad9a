-- When a field is unfinished: a value begins as the text does, and the reader looks one byte further at most.
use Prim.Native.Nat.{ℕ, suc, ◌+◌, ◌≤◌}
use mathlib.Core.Path.{◌≡◌, sym, subst, ◌∙◌}
use mathlib.Core.Bool.{true}
use mathlib.Core.List.{List, ◌++◌}
use native.Mathlib.Omega.{arith}
use lib.ListN.{length}
use Rattle.files.specs.Outcome.{done, refusal}
use Rattle.translator.specs.Fields.{Field, Value, field_at}
use Rattle.translator.proofs.Written.{written, writable, Unfinished}
use Rattle.translator.proofs.FrontLaws.{Agree}
use Rattle.translator.proofs.WordLaws.{refused}

abbrev pub Reads : Field → Type 0
Reads f = (v : Value f) (rest : List ℕ) (at : ℕ) → writable f v ≡ true → field_at f (written f v ++ rest) at ≡ done

-- a field is unfinished where a value begins as the text does, and the reader does not look further
pub unfinished : (f : Field) (r : List ℕ) (at k : ℕ) → Reads f → field_at f r at ≡ refusal 31 (at + k) → k ≤ length r
    → (v : Value f) → writable f v ≡ true → k ≤ length (written f v) → Agree k (written f v) r
    → ((s : List ℕ) → Agree (suc k) s r → field_at f s at ≡ field_at f r at)
    → Unfinished f r k
unfinished f r at k reads place within v fits long begun agree =
    record {
      within = within;
      value = v;
      fits = fits;
      long = long;
      begun = begun;
      stops = λ w rest fitting e.
          let one : k + 1 ≡ suc k = omega arith in
          refused (sym (reads w rest at fitting) ∙ agree (written f w ++ rest) (subst (λ (n : ℕ). Agree n (written f w ++ rest) r) one e) ∙ place);
    }
