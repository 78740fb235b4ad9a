-- Laws of `guard` and `and_then`: which way each goes, from the code's own test.
use Prim.Native.Nat.{ℕ, ◌≤◌, ◌<◌}
use mathlib.Core.Path.{◌≡◌, refl, sym, ap, ◌∙◌}
use mathlib.Core.Bool.{Bool, true, false, cond}
use mathlib.Core.List.{List}
use native.Mathlib.Omega.{arith}
use Rattle.std.specs.Prelude.{Result, Ok, Err, is_ok}
use Rattle.std.specs.Result.{IsErrAnd, result_from_control_flow}
use Rattle.std.specs.declared.ops.ControlFlow.{ControlFlow}
use Rattle.std.specs.declared.ops.ControlFlow.TheVariants.{Continue, Break}
use Rattle.std.proofs.lemmas.Result.{err_from_is_err_and}
use lib.Dec.{leb, ltb, eqb}
use borrow.Author.Tests.{le-ltb, lt-ltb, le-leb, lt-leb, eq-eqb, ne_eqb, eqb-true, eqb-false}
use Rattle.files.specs.Outcome.{Outcome, done, refusal, refused, number_of, outcome_of, is_done, guard, and_then, overwrite, after}
use Rattle.files.specs.declared.refusals.Reason.{Reason}
use Rattle.files.specs.declared.refusals.Reason.TheVariants.{CutShort, NotDue, WrongLength, OutsideLimits, OutOfRange, NotRising, WrongSignOff, UnknownLevel, ShortBuffer, NotApplicable, GoalMissed, NoPlan, TooManyStates, WrongForm, Unsupported, GivenTwice}
use Rattle.files.specs.declared.refusals.Refusal.{Refusal}

pub guard_passes : (t : Bool) (n p : ℕ) (rest r : Outcome) → t ≡ true → r ≡ rest → r ≡ guard t n p rest
unfolding guard
guard_passes t n p rest r h e = rw h e

pub guard_refuses : (t : Bool) (n p : ℕ) (rest r : Outcome) → t ≡ false → r ≡ refusal n p → r ≡ guard t n p rest
unfolding guard
guard_refuses t n p rest r h e = rw h e

pub is_done_lem : (o : Outcome) → o.number ≡ 0 → is_done o ≡ true
unfolding is_done
is_done_lem o e = eq-eqb o.number 0 e

pub is_refused : (o : Outcome) → (o.number ≡ 0 → ⊥) → is_done o ≡ false
unfolding is_done
is_refused o d = ne_eqb o.number 0 d

pub done_number : (o : Outcome) → is_done o ≡ true → o.number ≡ 0
unfolding is_done
done_number o e = eqb-true o.number 0 e

-- the code tests numbers that equal the definition's
pub goes_le : (a b n p : ℕ) (rest r : Outcome) (x y : ℕ) → x ≡ a → y ≡ b → x ≤ y → r ≡ rest → r ≡ guard (leb a b) n p rest
goes_le a b n p rest r x y ea eb h e = guard_passes (leb a b) n p rest r (le-leb a b (omega arith)) e

pub stops_le : (a b n p : ℕ) (rest r : Outcome) (x y : ℕ) → x ≡ a → y ≡ b → y < x → r ≡ refusal n p → r ≡ guard (leb a b) n p rest
stops_le a b n p rest r x y ea eb h e = guard_refuses (leb a b) n p rest r (lt-leb a b (omega arith)) e

pub goes_lt : (a b n p : ℕ) (rest r : Outcome) (x y : ℕ) → x ≡ a → y ≡ b → x < y → r ≡ rest → r ≡ guard (ltb a b) n p rest
goes_lt a b n p rest r x y ea eb h e = guard_passes (ltb a b) n p rest r (lt-ltb a b (omega arith)) e

pub stops_lt : (a b n p : ℕ) (rest r : Outcome) (x y : ℕ) → x ≡ a → y ≡ b → y ≤ x → r ≡ refusal n p → r ≡ guard (ltb a b) n p rest
stops_lt a b n p rest r x y ea eb h e = guard_refuses (ltb a b) n p rest r (le-ltb a b (omega arith)) e

pub goes_eq : (a b n p : ℕ) (rest r : Outcome) (x y : ℕ) → x ≡ a → y ≡ b → x ≡ y → r ≡ rest → r ≡ guard (eqb a b) n p rest
goes_eq a b n p rest r x y ea eb h e = guard_passes (eqb a b) n p rest r (eq-eqb a b (omega arith)) e

pub stops_eq : (a b n p : ℕ) (rest r : Outcome) (x y : ℕ) → x ≡ a → y ≡ b → eqb x y ≡ false → r ≡ refusal n p → r ≡ guard (eqb a b) n p rest
stops_eq a b n p rest r x y ea eb h e =
    guard_refuses (eqb a b) n p rest r (ne_eqb a b (λ q. eqb-false x y h (ea ∙ q ∙ sym eb))) e

pub goes_on_lem : (a b r x : Outcome) → x ≡ a → x.number ≡ 0 → r ≡ b → r ≡ and_then a b
unfolding and_then
goes_on_lem a b r x ea h e = rw (is_done_lem a (ap (λ (o : Outcome). o.number) (sym ea) ∙ h)) e

pub stops : (a b x : Outcome) → x ≡ a → (x.number ≡ 0 → ⊥) → x ≡ and_then a b
unfolding and_then
stops a b x ea h = rw (is_refused a (λ q. h (ap (λ (o : Outcome). o.number) ea ∙ q))) ea

-- every reason has a number
pub number_above : (r : Reason) → 1 ≤ number_of r
number_above CutShort = omega arith
number_above NotDue = omega arith
number_above WrongLength = omega arith
number_above OutsideLimits = omega arith
number_above OutOfRange = omega arith
number_above NotRising = omega arith
number_above WrongSignOff = omega arith
number_above UnknownLevel = omega arith
number_above ShortBuffer = omega arith
number_above NotApplicable = omega arith
number_above GoalMissed = omega arith
number_above NoPlan = omega arith
number_above TooManyStates = omega arith
number_above WrongForm = omega arith
number_above Unsupported = omega arith
number_above GivenTwice = omega arith

pub refused_number : (r : Refusal) → (refused r).number ≡ 0 → ⊥
refused_number r z = omega (arith, number_above r.reason)

pub refused_stands : (r : Refusal) → is_done (refused r) ≡ false
refused_stands r = is_refused (refused r) (refused_number r)

pub ok_done : {A : Type 0} (r : Result A Refusal) → is_ok r ≡ is_done (outcome_of r)
unfolding is_done
ok_done (Ok x) = refl
ok_done (Err e) = sym (refused_stands e)

-- a refusal ends what follows, and what is done goes on
pub stops_refused : (a b : Outcome) (r : Refusal) → refused r ≡ a → refused r ≡ and_then a b
stops_refused a b r e = stops a b (refused r) e (refused_number r)

pub goes_done : (a b r : Outcome) → done ≡ a → r ≡ b → r ≡ and_then a b
goes_done a b r e f = goes_on_lem a b r done e refl f

-- what `?` does with what a call answers: after an Ok the rest follows, and an Err is handed on
pub goes_ok : {A : Type 0} (r : Result A Refusal) (k : ControlFlow _ A) (x : A) (a b o : Outcome)
    → outcome_of r ≡ a → r ≡ result_from_control_flow k → k ≡ Continue x → o ≡ b → o ≡ and_then a b
goes_ok r k x a b o e f g h = goes_done a b o (sym (ap outcome_of (f ∙ ap result_from_control_flow g)) ∙ e) h

pub handed_on : {B : Type 0} (o : Result B Refusal) (e : Refusal) → IsErrAnd o (λ x. x ≡ e) → outcome_of o ≡ refused e
handed_on o e h = let p = err_from_is_err_and o h in rw (p.1, p.2) refl

pub stops_up : {B : Type 0} (o : Result B Refusal) (e : Refusal) (a b : Outcome) → IsErrAnd o (λ x. x ≡ e) → refused e ≡ a → outcome_of o ≡ and_then a b
stops_up o e a b h q = handed_on o e h ∙ stops_refused a b e q

pub stops_err : {A B : Type 0} (r : Result A Refusal) (k : ControlFlow _ A) (e : _) (o : Result B Refusal) (a b : Outcome)
    → outcome_of r ≡ a → r ≡ result_from_control_flow k → k ≡ Break e → IsErrAnd o (λ x. x ≡ e.0) → outcome_of o ≡ and_then a b
stops_err r k e o a b p f g h =
    stops_up o e.0 a b h (sym (ap outcome_of (f ∙ ap result_from_control_flow g)) ∙ p)

-- answers the return of a check whose tests are the negations of its definition's
pub ruleset forms = (goes_le, stops_le, goes_lt, stops_lt, goes_eq, stops_eq, goes_on_lem, stops, goes_done, stops_refused, goes_ok, stops_err)

-- what a check that is done has passed
pub passed : (t : Bool) (n p : ℕ) (rest : Outcome) → 0 < n → (guard t n p rest).number ≡ 0 → (t ≡ true) × (rest.number ≡ 0)
unfolding guard
passed true n p rest h e = (refl, e)
passed false n p rest h e = absurd (omega arith)

pub both_done : (a b : Outcome) → (and_then a b).number ≡ 0 → (a.number ≡ 0) × (b.number ≡ 0)
unfolding and_then
both_done a b e = go (is_done a) refl e
  where
    go : (t : Bool) → is_done a ≡ t → (cond t b a).number ≡ 0 → (a.number ≡ 0) × (b.number ≡ 0)
    go true q z = (done_number a q, z)
    go false q z = absurd (let d = is_done_lem a z in let x : ◌≡◌ {A = ℕ} 0 1 = cc in omega arith)

-- a refusal has a number
pub refusal_number : (o : Outcome) (n place : ℕ) → 0 < n → o ≡ refusal n place → o.number ≡ 0 → ⊥
refusal_number o n place h e z = omega (arith, ap (λ (x : Outcome). x.number) e)

-- a buffer after a stage
pub after_done : {A : Type 0} (o : Outcome) (new old : List A) → o.number ≡ 0 → after o new old ≡ overwrite old new
unfolding after
after_done o new old e = rw (is_done_lem o e) refl

pub after_refused : {A : Type 0} (o : Outcome) (new old : List A) → (o.number ≡ 0 → ⊥) → after o new old ≡ old
unfolding after
after_refused o new old d = rw (is_refused o d) refl
