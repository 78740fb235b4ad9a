-- Laws of name lines: how a name with its line feed is read.
use Prim.Native.Nat.{ℕ, suc, ◌+◌, ◌≤◌}
use mathlib.Core.Path.{◌≡◌, refl, sym, ap, subst, ◌∙◌}
use mathlib.Core.Bool.{Bool, true, not}
use mathlib.Core.List.{List, [], ◌∷◌, ◌++◌, append_assoc}
use native.Mathlib.Omega.{arith}
use lib.Dec.{eqb}
use lib.ListN.{length, take, drop, length-append, take-append-drop}
use lib.Seq.{length-take-le, take-append_seam, drop-append_seam, drop-drop}
use Rattle.files.specs.Below.{all_of}
use Rattle.files.specs.Outcome.{Outcome, done}
use Rattle.files.proofs.Logic.{split}
use Rattle.translator.specs.Fields.{byte_at, line_length}
use Rattle.translator.specs.Sas.{name_line, is_name}
use Rattle.translator.proofs.FrontLaws.{Agree, agree_past, passing, passing_whole, passing_within, passing_pass, passing_agree}
use Rattle.translator.proofs.WordLaws.{byte_read, byte_back, byte_agree}

-- a byte of a name
abbrev in_name : ℕ → Bool
in_name b = not (eqb b 10)

line_passing : (r : List ℕ) → line_length r ≡ passing in_name r
unfolding line_length
line_passing [] = refl
line_passing (b ∷ r) =
    split (eqb b 10)
    (λ e. rw e refl)
    (λ e. rw e (omega (arith, line_passing r)))

-- the byte that ends a line
abbrev line_end : List ℕ → ℕ → Outcome
line_end r at = byte_at 10 (drop (line_length r) r) (at + line_length r)

pub line_within : (r : List ℕ) → line_length r ≤ length r
line_within r = omega (arith, line_passing r, passing_within in_name r)

pub line_name : (r : List ℕ) → is_name (take (line_length r) r) ≡ true
unfolding is_name
line_name r = subst (λ (k : ℕ). all_of in_name (take k r) ≡ true) (sym (line_passing r)) (passing_pass in_name r)

line_append : (n rest : List ℕ) → name_line n ++ rest ≡ n ++ (10 ∷ rest)
unfolding name_line
line_append n rest = append_assoc n (10 ∷ []) rest

pub line_length_lem : (n : List ℕ) → length (name_line n) ≡ length n + 1
unfolding name_line
line_length_lem n = length-append n (10 ∷ [])

pub line_ends : (n rest : List ℕ) → is_name n ≡ true → line_length (name_line n ++ rest) ≡ length n
unfolding is_name
line_ends n rest named = ap line_length (line_append n rest) ∙ line_passing (n ++ 10 ∷ rest) ∙ passing_whole in_name n 10 rest named refl

pub line_states : (n rest : List ℕ) → is_name n ≡ true → take (line_length (name_line n ++ rest)) (name_line n ++ rest) ≡ n
line_states n rest named =
    ap (λ (k : ℕ). take k (name_line n ++ rest)) (line_ends n rest named) ∙ ap (take (length n)) (line_append n rest) ∙ take-append_seam n (10 ∷ rest)

pub line_reads : (n rest : List ℕ) (at : ℕ) → is_name n ≡ true → line_end (name_line n ++ rest) at ≡ done
line_reads n rest at named =
    let past : drop (line_length (name_line n ++ rest)) (name_line n ++ rest) ≡ 10 ∷ rest =
    ap (λ (k : ℕ). drop k (name_line n ++ rest)) (line_ends n rest named) ∙ ap (drop (length n)) (line_append n rest) ∙ drop-append_seam n (10 ∷ rest) in
    ap (λ (r : List ℕ). byte_at 10 r (at + line_length (name_line n ++ rest))) past ∙ byte_read 10 rest (at + line_length (name_line n ++ rest))

pub line_back : (r : List ℕ) (at : ℕ) → line_end r at ≡ done → r ≡ name_line (take (line_length r) r) ++ drop (line_length r + 1) r
line_back r at e =
    let past : drop (line_length r) r ≡ 10 ∷ drop (line_length r + 1) r =
    byte_back 10 (drop (line_length r) r) (at + line_length r) e ∙ ap (λ (x : List ℕ). 10 ∷ x) (drop-drop 1 (line_length r) r) in
    sym (take-append-drop (line_length r) r) ∙ ap (λ (x : List ℕ). take (line_length r) r ++ x) past ∙ sym (line_append (take (line_length r) r) (drop (line_length r + 1) r))

pub line_long : (r : List ℕ) → line_length r + 1 ≡ length (name_line (take (line_length r) r))
line_long r = omega (arith, line_length_lem (take (line_length r) r), length-take-le (line_length r) r (line_within r))

pub line_begins : (r : List ℕ) → Agree (line_length r) (name_line (take (line_length r) r)) r
unfolding name_line
line_begins r =
    let count : length (take (line_length r) r) ≡ line_length r = length-take-le (line_length r) r (line_within r) in
    ap (λ (k : ℕ). take k (take (line_length r) r ++ (10 ∷ []))) (sym count) ∙ take-append_seam (take (line_length r) r) (10 ∷ [])

pub line_agree : (r s : List ℕ) (at : ℕ) → Agree (suc (line_length r)) s r → line_end s at ≡ line_end r at
line_agree r s at agree =
    let same : line_length s ≡ line_length r = line_passing s ∙ passing_agree in_name r s (subst (λ (k : ℕ). Agree (suc k) s r) (line_passing r) agree) ∙ sym (line_passing r) in
    ap (λ (k : ℕ). byte_at 10 (drop k s) (at + k)) same
    ∙ byte_agree 10 (drop (line_length r) r) (drop (line_length r) s) (at + line_length r) (agree_past (line_length r) s r agree)
