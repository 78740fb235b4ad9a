-- The lines of the steps of a plan: each fits, they are as long as they are many, and they are written one behind the other.
use Prim.Native.Nat.{ℕ, zero, suc, ◌+◌, ◌*◌, ◌≤◌, ◌<◌}
use mathlib.Core.Path.{◌≡◌, refl, sym, ap, ap₂, ◌∙◌}
use mathlib.Core.List.{List, [], ◌∷◌, ◌++◌, append_assoc}
use native.Mathlib.Numerals.{add-one}
use native.Mathlib.Omega.{arith}
use lib.ListN.{length, take, drop, length-append, drop_of_length-le}
use lib.Seq.{take_at, drop-append-add, drop-cons}
use Rattle.files.specs.Bytes.{placed}
use Rattle.files.proofs.Placed.{placed_length, placed_then}
use Rattle.plans.specs.Plan.{step_of}
use Rattle.sheets.specs.Sheet.{step_line, step_lines}
use Rattle.sheets.specs.Clauses.{NumbersFit}
use Rattle.sheets.specs.Right.{line_of}
use Rattle.sheets.proofs.LineLaws.{step_is_line}

-- steps behind `taken` steps and a total: few, of known actions, and each cheap
pub record Shown (minutes : ℕ → ℕ) (taken total : ℕ) (plan : List ℕ) : Type 0 where
  pub few : taken + length plan ≤ 4096
  pub known : (i : ℕ) → i < length plan → step_of plan i < 512
  pub cheap : (i : ℕ) → i < length plan → minutes (step_of plan i) ≤ 1000000
  pub sum : total ≤ 1000000 * taken

module _ (minutes : ℕ → ℕ) where
  module _ (taken total a : ℕ) (plan : List ℕ) (s : Shown minutes taken total (a ∷ plan)) where
    pub first_fits : NumbersFit (taken + 1) a (minutes a) (total + minutes a)
    first_fits =
        record {
          step_fits = omega (arith, s.few);
          action_fits = omega (arith, s.known 0 (omega arith));
          minutes_fit = omega (arith, s.cheap 0 (omega arith));
          total_fits = omega (arith, s.few, s.sum, s.cheap 0 (omega arith));
        }

    pub shown_next : Shown minutes (taken + 1) (total + minutes a) plan
    shown_next =
        record {
          few = omega (arith, s.few);
          known = λ i h. s.known (suc i) (omega arith);
          cheap = λ i h. s.cheap (suc i) (omega arith);
          sum = omega (arith, s.sum, s.cheap 0 (omega arith));
        }

    first_length : length (step_line (taken + 1) a (minutes a) (total + minutes a)) ≡ 33
    first_length = (step_is_line (taken + 1) a (minutes a) (total + minutes a) first_fits).long

  pub lines_length : (taken total : ℕ) (plan : List ℕ) → Shown minutes taken total plan → length (step_lines minutes taken total plan) ≡ 33 * length plan
  unfolding step_lines
  lines_length taken total [] s = refl
  lines_length taken total (a ∷ plan) s =
      let line = step_line (taken + 1) a (minutes a) (total + minutes a) in
      let rest = lines_length (taken + 1) (total + minutes a) plan (shown_next taken total a plan s) in
      omega (arith, length-append line (step_lines minutes (taken + 1) (total + minutes a) plan), first_length taken total a plan s, rest)

  -- the minutes up to and with a step, behind a total
  unfoldable pub up_to : ℕ → List ℕ → ℕ → ℕ
  up_to total [] k = total
  up_to total (a ∷ plan) zero = total + minutes a
  up_to total (a ∷ plan) (suc k) = up_to (total + minutes a) plan k

  pub line_at : (taken total : ℕ) (plan rest : List ℕ) (k : ℕ) → Shown minutes taken total plan → k < length plan
      → line_of (step_lines minutes taken total plan ++ rest) k ≡ step_line (taken + (k + 1)) (step_of plan k) (minutes (step_of plan k)) (up_to total plan k)
  unfolding step_lines up_to
  line_at taken total [] rest k s h = absurd (omega arith)
  line_at taken total (a ∷ plan) rest zero s h =
      let line = step_line (taken + 1) a (minutes a) (total + minutes a) in
      let more = step_lines minutes (taken + 1) (total + minutes a) plan in
      ap (take 33) (append_assoc line more rest)
      ∙ take_at line (more ++ rest) 33 (first_length taken total a plan s)
  line_at taken total (a ∷ plan) rest (suc k) s h =
      let line = step_line (taken + 1) a (minutes a) (total + minutes a) in
      let more = step_lines minutes (taken + 1) (total + minutes a) plan in
      let e : 33 * suc k ≡ length line + 33 * k = omega (arith, first_length taken total a plan s) in
      let n : taken + 1 + (k + 1) ≡ taken + (suc k + 1) = omega arith in
      ap₂ (λ (m : ℕ) (l : List ℕ). take 33 (drop m l)) e (append_assoc line more rest)
      ∙ ap (take 33) (drop-append-add line (more ++ rest) (33 * k))
      ∙ line_at (taken + 1) (total + minutes a) plan rest k (shown_next taken total a plan s) (omega arith)
      ∙ ap (λ (m : ℕ). step_line m (step_of plan k) (minutes (step_of plan k)) (up_to (total + minutes a) plan k)) n

  -- before step i of a plan: what is left to be written, behind what is
  pub record Writing (page₀ : List ℕ) (plan page : List ℕ) (i total : ℕ) : Type 0 where
    pub rest : placed page (33 * i) (step_lines minutes i total (drop i plan)) ≡ placed page₀ 0 (step_lines minutes 0 0 plan)
    pub sum : total ≤ 1000000 * i
    pub within : i ≤ length plan
    pub long : length page ≡ length page₀

  module _ (page₀ : List ℕ) (plan : List ℕ) where
    pub writing_begins : Writing page₀ plan page₀ 0 0
    writing_begins = record { rest = refl; sum = omega arith; within = omega arith; long = refl }

    module _ (page : List ℕ) (i total : ℕ) (w : Writing page₀ plan page i total) where
      pub writing_ends : length plan ≤ i → page ≡ placed page₀ 0 (step_lines minutes 0 0 plan)
      unfolding step_lines placed
      writing_ends h = sym (ap (λ (l : List ℕ). placed page (33 * i) (step_lines minutes i total l)) (drop_of_length-le plan h)) ∙ w.rest

      -- the step that is due, and its minutes
      module _ (h : i < length plan) (few : length plan ≤ 4096) (a m : ℕ) (is : a ≡ step_of plan i) (takes : m ≡ minutes a) (known : step_of plan i < 512) (cheap : minutes (step_of plan i) ≤ 1000000) where
        most : m ≤ 1000000
        most = omega (arith, takes ∙ ap minutes is, cheap)

        pub due_fits : NumbersFit (i + 1) a m (total + m)
        due_fits =
            record {
              step_fits = omega (arith, h, few);
              action_fits = omega (arith, is, known);
              minutes_fit = omega (arith, most);
              total_fits = omega (arith, h, few, w.sum, most);
            }

        pub writing_next : (next : List ℕ) → next ≡ placed page (33 * i) (step_line (i + 1) a m (total + m)) → Writing page₀ plan next (i + 1) (total + m)
        unfolding step_lines
        writing_next next e =
            let line = step_line (i + 1) a m (total + m) in
            let long = (step_is_line (i + 1) a m (total + m) due_fits).long in
            let left : drop i plan ≡ a ∷ drop (i + 1) plan = drop-cons plan i 0 h ∙ ap₂ (λ (x n : ℕ). x ∷ drop n plan) (sym is) (sym (add-one i)) in
            let lines : line ++ step_lines minutes (i + 1) (total + m) (drop (i + 1) plan) ≡ step_lines minutes i total (drop i plan) =
            ap (λ (x : ℕ). step_line (i + 1) a x (total + x) ++ step_lines minutes (i + 1) (total + x) (drop (i + 1) plan)) takes ∙ sym (ap (step_lines minutes i total) left) in
            record {
              rest =
                  placed_then page next (33 * i) (33 * (i + 1)) line (step_lines minutes (i + 1) (total + m) (drop (i + 1) plan)) e (omega (arith, long))
                  ∙ ap (placed page (33 * i)) lines
                  ∙ w.rest;
              sum = omega (arith, w.sum, most);
              within = omega (arith, h);
              long = ap length e ∙ placed_length page (33 * i) line ∙ w.long;
            }

-- the same lines by minutes that are alike for every step
pub lines_alike : (f g : ℕ → ℕ) (taken total : ℕ) (plan : List ℕ) → ((i : ℕ) → i < length plan → f (step_of plan i) ≡ g (step_of plan i))
    → step_lines f taken total plan ≡ step_lines g taken total plan
unfolding step_lines
lines_alike f g taken total [] same = refl
lines_alike f g taken total (a ∷ plan) same =
    ap (λ (m : ℕ). step_line (taken + 1) a m (total + m) ++ step_lines f (taken + 1) (total + m) plan) (same 0 (omega arith))
    ∙ ap (λ (l : List ℕ). step_line (taken + 1) a (g a) (total + g a) ++ l) (lines_alike f g (taken + 1) (total + g a) plan (λ i h. same (suc i) (omega arith)))
