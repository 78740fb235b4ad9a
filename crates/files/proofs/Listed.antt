-- Each check of a file gives an outcome that is listed: done, or a refusal of the file at a place that is at most its length.
use Prim.Native.Nat.{ℕ, zero, suc, ◌+◌, ◌*◌, ◌/◌, ◌≤◌}
use mathlib.Core.Path.{◌≡◌, refl, ap, ◌∙◌}
use mathlib.Core.Bool.{Bool, true, false, ◌&&◌, and-or_distrib_right}
use mathlib.Core.List.{List, [], ◌∷◌, ◌++◌, map}
use native.Mathlib.Omega.{arith}
use lib.Dec.{eqb, leb}
use lib.ListN.{length}
use borrow.Author.Tests.{leb-true, eqb-true, eq-eqb}
use Rattle.files.specs.Outcome.{Outcome, done, refusal, is_done, guard, and_then, in_second}
use Rattle.files.specs.Below.{any_of}
use Rattle.files.specs.Bytes.{u16_at}
use Rattle.files.specs.Listed.{Refusal, gives, listed, refused_at, in_file, file_refusals}
use Rattle.files.specs.Records.{body_length, record_end, records_end, body_rule, body_fits, head_at, numbers_at, sign_off_at, size_fits}
use Rattle.files.specs.TaskFile.{header_at, variables_in, actions_in, variable_at, variables_at, variable_place, pair_at, pairs_at, goal_at, conditions_in, effects_in, action_length, effects_place, action_form_at, action_at, actions_at, goal_place, actions_place, check_task}
use Rattle.files.specs.OriginFile.{values_in, variable_origin_at, variable_origins_at, action_origins_at, origin_variables_in, origin_actions_place, check_origin}
use Rattle.files.specs.PlanFile.{steps_in, check_plan_file}
use Rattle.files.proofs.Logic.{clash, split, or_left, or_right}
use Rattle.files.proofs.Guards.{is_done_lem, is_refused, done_number, both_done}
use Rattle.files.proofs.Done.{facts}
use Rattle.files.proofs.BelowLaws.{any_append}

module _ (refusals : List Refusal) where
  pub listed_done : listed refusals done ≡ true
  unfolding listed is_done
  listed_done = refl

  pub listed_front : (more : List Refusal) (o : Outcome) → listed refusals o ≡ true → listed (refusals ++ more) o ≡ true
  unfolding listed
  listed_front more o w = split (is_done o) (λ e. rw e (rw e at w)) (λ e. rw (e, any_append) (or_left (any_of (gives o) more) (rw e at w)))

  pub listed_behind : (more : List Refusal) (o : Outcome) → listed more o ≡ true → listed (refusals ++ more) o ≡ true
  unfolding listed
  listed_behind more o w = split (is_done o) (λ e. rw e (rw e at w)) (λ e. rw (e, any_append) (or_right (any_of (gives o) refusals) (rw e at w)))

  pub listed_guard : (t : Bool) (n p : ℕ) (rest : Outcome) → listed refusals (refusal n p) ≡ true → (t ≡ true → listed refusals rest ≡ true) → listed refusals (guard t n p rest) ≡ true
  unfolding guard
  listed_guard true n p rest r w = w refl
  listed_guard false n p rest r w = r

  pub listed_both : (a b : Outcome) → listed refusals a ≡ true → (a.number ≡ 0 → listed refusals b ≡ true) → listed refusals (and_then a b) ≡ true
  unfolding and_then
  listed_both a b v w = split (is_done a) (λ e. rw e (w (done_number a e))) (λ e. rw e v)

  pub listed_itself : (o : Outcome) → listed refusals o ≡ true → is_done o ≡ true → o ≡ done
  unfolding listed
  listed_itself o w e = let found = simp facts at (rw e at w) in λ i. record { number = done_number o e i; file = found.0 i; place = found.1 i }

-- a refusal that stands first in the list, or later
pub listed_later : (r : Refusal) (refusals : List Refusal) (o : Outcome) → listed refusals o ≡ true → listed (r ∷ refusals) o ≡ true
listed_later r refusals o w = listed_behind (r ∷ []) refusals o w

pub listed_at : (n p : ℕ) (refusals : List Refusal) → eqb n 0 ≡ false → listed (refused_at n p ∷ refusals) (refusal n p) ≡ true
unfolding listed is_done gives
listed_at n p refusals z = rw (z, eq-eqb n n refl, eq-eqb p p refl) refl

-- a file's refusals, by number, file and place
gives_file : (o : Outcome) (file bytes : ℕ) (numbers : List ℕ) → any_of (gives o) (map (in_file file bytes) numbers) ≡ any_of (eqb o.number) numbers && (eqb o.file file && leb o.place bytes)
unfolding gives
gives_file o file bytes [] = refl
gives_file o file bytes (n ∷ numbers) = rw (gives_file o file bytes numbers, and-or_distrib_right (eqb o.number n))

abbrev pub file_number : ℕ → Bool
file_number n = any_of (eqb n) (1 ∷ 2 ∷ 3 ∷ 4 ∷ 5 ∷ 6 ∷ 7 ∷ [])

file_gives : (file : ℕ) (s : List ℕ) (o : Outcome) → any_of (gives o) (file_refusals file s) ≡ file_number o.number && (eqb o.file file && leb o.place (length s))
unfolding file_refusals
file_gives file s o = gives_file o file (length s) (1 ∷ 2 ∷ 3 ∷ 4 ∷ 5 ∷ 6 ∷ 7 ∷ [])

-- no other number is a file's
pub not_listed : (file n : ℕ) (s : List ℕ) (o : Outcome) → file_number n ≡ false → eqb n 0 ≡ false → listed (file_refusals file s) o ≡ true → o.number ≡ n → ⊥
unfolding listed is_done
not_listed file n s o f z w e =
    let found = simp facts at (rw (ap (λ (k : ℕ). eqb k 0) e ∙ z, file_gives file s) at w) in
    clash found.0 (ap file_number e ∙ f)

pub listed_second : (s : List ℕ) (o : Outcome) → listed (file_refusals 0 s) o ≡ true → listed (file_refusals 1 s) (in_second o) ≡ true
unfolding listed is_done in_second
listed_second s o w =
    split (eqb o.number 0)
    (λ e. let found = simp facts at (rw e at w) in rw e (simp facts (refl, found.1)))
    (λ e. let found = simp facts at (rw (e, file_gives 0 s) at w) in rw (e, file_gives 1 s) (simp facts (found.0, (refl, found.1.1))))

module _ (s : List ℕ) where
  -- an outcome of the file, and what is known where it is done
  record InFile (P : Type 0) (o : Outcome) : Type 0 where
    outcome : listed (file_refusals 0 s) o ≡ true
    known : o.number ≡ 0 → P

  in_done : {P : Type 0} → P → InFile P done
  in_done k = record { outcome = listed_done (file_refusals 0 s); known = λ e. k }

  in_guard : {P : Type 0} (t : Bool) (n p : ℕ) (rest : Outcome) → file_number n ≡ true → p ≤ length s → (t ≡ true → InFile P rest) → InFile P (guard t n p rest)
  unfolding guard listed
  in_guard true n p rest f h w = w refl
  in_guard false n p rest f h w =
      let refused : n ≡ 0 → ⊥ = λ e. clash f (ap file_number e) in
      record {
        outcome = rw (is_refused (refusal n p) refused, file_gives 0 s) (simp facts (f, (refl, h)));
        known = λ e. absurd (refused e);
      }

  in_both : {P Q : Type 0} {a b : Outcome} → InFile Q a → (Q → InFile P b) → InFile P (and_then a b)
  in_both {P} {Q} {a} {b} v w =
      record {
        outcome = listed_both (file_refusals 0 s) a b v.outcome (λ e. (w (v.known e)).outcome);
        known = λ e. let both = both_done a b e in (w (v.known both.0)).known both.1;
      }

  in_size : {P : Type 0} {o : Outcome} → InFile P o → InFile P (size_fits s o)
  unfolding size_fits
  in_size w = in_guard _ 4 0 _ refl (omega arith) (λ e. w)

  lower : (at k m : ℕ) → leb k m ≡ true → at + m ≤ length s → at + k ≤ length s
  lower at k m f h = omega (arith, leb-true k m f)

  -- where a head is done, the body is long enough for its kind, and the record ends in the file
  head_in : (at kind : ℕ) → at ≤ length s → InFile (((body_rule kind).least ≤ body_length s at) × (record_end s at ≤ length s)) (head_at s at kind)
  unfolding head_at body_fits
  head_in at kind h = search (in_guard, in_done, leb-true) depth 12

  sign_off_in : (at : ℕ) → at ≤ length s → InFile (Unit {0}) (sign_off_at s at)
  unfolding sign_off_at body_rule record_end
  sign_off_in at h = in_both (head_in at 5 h) (λ body. let end : at + 12 ≤ length s = omega arith in search (in_guard, in_done, lower) depth 12)

  -- what is known before the numbers is known behind them
  numbers_in : {P : Type 0} → P → (limit at count : ℕ) → at + 2 * count ≤ length s → InFile P (numbers_at limit s at count)
  unfolding numbers_at
  numbers_in k limit at zero h = in_done k
  numbers_in k limit at (suc count) h = in_guard _ 5 at _ refl (omega arith) (λ e. numbers_in k limit (at + 2) count (omega arith))

  variable_in : (at : ℕ) → at ≤ length s → InFile (at + 8 ≤ length s) (variable_at s at)
  unfolding variable_at body_rule record_end
  variable_in at h = in_both (head_in at 2 h) (λ body. let end : at + 8 ≤ length s = omega arith in search (in_guard, in_done, lower) depth 12)

  variables_in_lem : (at count end : ℕ) → at + 8 * count ≡ end → at ≤ length s → InFile (end ≤ length s) (variables_at s at count)
  unfolding variables_at
  variables_in_lem at zero end e h = in_done (omega arith)
  variables_in_lem at (suc count) end e h = in_both (variable_in at h) (variables_in_lem (at + 8) count end (omega arith))

  pairs_in_lem : {P : Type 0} → P → (at_least at count : ℕ) → at + 4 * count ≤ length s → InFile P (pairs_at s at_least at count)
  unfolding pairs_at pair_at
  pairs_in_lem k at_least at zero h = in_done k
  pairs_in_lem {P} k at_least at (suc count) h =
      let inside : (at ≤ length s) × (at + 2 ≤ length s) = omega arith in
      in_both {Q = P} (search (in_guard, in_done)) (λ k. pairs_in_lem k (u16_at s at + 1) (at + 4) count (omega arith))

  goal_in : (at : ℕ) → at ≤ length s → InFile (record_end s at ≤ length s) (goal_at s at)
  unfolding goal_at record_end
  goal_in at h = in_both (head_in at 3 h) (λ body. pairs_in_lem body.1 0 (at + 4) (body_length s at / 4) (omega arith))

  action_in : (at : ℕ) → at ≤ length s → InFile (record_end s at ≤ length s) (action_at s at)
  unfolding action_at action_form_at body_rule record_end action_length effects_place
  action_in at h =
      in_both (head_in at 4 h)
      (λ body. let counts : at + 12 ≤ length s = omega arith in
      in_both {Q = body_length s at ≡ action_length s at} (search (in_guard, in_done, lower, eqb-true) depth 12)
      (λ long. in_both (pairs_in_lem long 0 (at + 12) (conditions_in s at) (omega arith))
      (λ long. pairs_in_lem body.1 0 (effects_place s at) (effects_in s at) (omega arith))))

  actions_in_lem : (at count : ℕ) → at ≤ length s → InFile (Unit {0}) (actions_at s at count)
  unfolding actions_at
  actions_in_lem at zero h = sign_off_in at h
  actions_in_lem at (suc count) h = in_both (action_in at h) (actions_in_lem (record_end s at) count)

  header_in : InFile (8 ≤ length s) (header_at s)
  unfolding header_at body_rule record_end
  header_in = in_both (head_in 0 1 (omega arith)) (λ body. in_guard _ 4 4 _ refl (omega arith) (λ e. in_guard _ 4 6 _ refl (omega arith) (λ e. in_done (omega arith))))

  pub task_listed : listed (file_refusals 0 s) (check_task s) ≡ true
  unfolding check_task goal_place variable_place actions_place
  task_listed =
      (in_size (in_both header_in
      (λ end. in_both (variables_in_lem 8 (variables_in s) (goal_place s) (omega arith) end)
      (λ end. in_both (goal_in (goal_place s) end) (actions_in_lem (actions_place s) (actions_in s)))))
      ).outcome

  variable_origin_in : (at_least at : ℕ) → at ≤ length s → InFile (record_end s at ≤ length s) (variable_origin_at s at_least at)
  unfolding variable_origin_at body_rule record_end values_in
  variable_origin_in at_least at h =
      in_both (head_in at 6 h)
      (λ body. in_guard _ 6 (at + 4) _ refl (omega arith)
      (λ e. in_guard _ 5 (at + 4) _ refl (omega arith)
      (λ e. numbers_in body.1 32 (at + 6) (values_in s at) (omega arith))))

  variable_origins_in : (at_least at count : ℕ) → at ≤ length s → InFile (records_end s at count ≤ length s) (variable_origins_at s at_least at count)
  unfolding variable_origins_at records_end
  variable_origins_in at_least at zero h = in_done h
  variable_origins_in at_least at (suc count) h = in_both (variable_origin_in at_least at h) (variable_origins_in (u16_at s (at + 4) + 1) (record_end s at) count)

  action_origins_in : {P : Type 0} → P → (at_least at count : ℕ) → at + 2 * count ≤ length s → InFile P (action_origins_at s at_least at count)
  unfolding action_origins_at
  action_origins_in k at_least at zero h = in_done k
  action_origins_in k at_least at (suc count) h =
      in_guard _ 6 at _ refl (omega arith)
      (λ e. in_guard _ 5 at _ refl (omega arith) (λ e. action_origins_in k (u16_at s at + 1) (at + 2) count (omega arith)))

  pub origin_listed : listed (file_refusals 0 s) (check_origin s) ≡ true
  unfolding check_origin origin_actions_place record_end
  origin_listed =
      (in_size (in_both (variable_origins_in 0 0 (origin_variables_in s) (omega arith))
      (λ end. in_both (head_in (origin_actions_place s) 7 end)
      (λ body. in_both (action_origins_in body.1 0 (origin_actions_place s + 4) (body_length s (origin_actions_place s) / 2) (omega arith))
      (sign_off_in (record_end s (origin_actions_place s))))))
      ).outcome

pub plan_listed : (actions : ℕ) (s : List ℕ) → listed (file_refusals 0 s) (check_plan_file actions s) ≡ true
unfolding check_plan_file steps_in record_end
plan_listed actions s =
    (in_size s (in_both s (head_in s 0 8 (omega arith))
    (λ body. in_both s (numbers_in s body.1 actions 4 (steps_in s) (omega arith))
    (sign_off_in s (record_end s 0))))
    ).outcome

-- a check whose number is 0 is `done` itself
pub task_check_done : (s : List ℕ) → (check_task s).number ≡ 0 → check_task s ≡ done
task_check_done s e = listed_itself (file_refusals 0 s) (check_task s) (task_listed s) (is_done_lem (check_task s) e)

pub origin_check_done : (s : List ℕ) → (check_origin s).number ≡ 0 → check_origin s ≡ done
origin_check_done s e = listed_itself (file_refusals 0 s) (check_origin s) (origin_listed s) (is_done_lem (check_origin s) e)

pub plan_check_done : (s : List ℕ) (actions : ℕ) → (check_plan_file actions s).number ≡ 0 → check_plan_file actions s ≡ done
plan_check_done s actions e = listed_itself (file_refusals 0 s) (check_plan_file actions s) (plan_listed actions s) (is_done_lem (check_plan_file actions s) e)
