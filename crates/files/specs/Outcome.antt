-- Outcomes: done or a numbered refusal with its place, the order of refusals, and a lent buffer after a call.
use Rattle.std.specs.Prelude.{ℕ, Bool, true, false, cond, List, ◌++◌, eqb, leb, length, drop, Result, Ok, Err}
use Rattle.files.specs.declared.refusals.Reason.{Reason}
use Rattle.files.specs.declared.refusals.Reason.TheVariants.{CutShort, NotDue, WrongLength, OutsideLimits, OutOfRange, NotRising, WrongSignOff, UnknownLevel, ShortBuffer, NotApplicable, GoalMissed, NoPlan, TooManyStates, WrongForm, Unsupported, GivenTwice}
use Rattle.files.specs.declared.refusals.Refusal.{Refusal}

-- what a call comes to: number 0 is done, any other is a refusal; file is 1 where the place is an offset in the second file handed in
pub record Outcome : Type 0 where
  pub number : ℕ
  pub file : ℕ
  pub place : ℕ

abbrev pub done : Outcome
done = record { number = 0; file = 0; place = 0 }

abbrev pub refusal : ℕ → ℕ → Outcome
refusal number place = record { number = number; file = 0; place = place }

-- 01's number of a refusal for each reason
abbrev pub number_of : Reason → ℕ
number_of CutShort = 1
number_of NotDue = 2
number_of WrongLength = 3
number_of OutsideLimits = 4
number_of OutOfRange = 5
number_of NotRising = 6
number_of WrongSignOff = 7
number_of UnknownLevel = 8
number_of ShortBuffer = 21
number_of NotApplicable = 22
number_of GoalMissed = 23
number_of NoPlan = 24
number_of TooManyStates = 25
number_of WrongForm = 31
number_of Unsupported = 32
number_of GivenTwice = 33

-- the outcome that a refusal is
abbrev pub refused : Refusal → Outcome
refused r = record { number = number_of r.reason; file = cond r.in_second 1 0; place = r.place }

-- the outcome of a call
abbrev pub outcome_of : {A : Type 0} → Result A Refusal → Outcome
outcome_of (Ok x) = done
outcome_of (Err r) = refused r

unfoldable pub is_done : Outcome → Bool
is_done o = eqb o.number 0

-- where the test passes, what follows; else the refusal
unfoldable pub guard : Bool → ℕ → ℕ → Outcome → Outcome
guard true number place rest = rest
guard false number place rest = refusal number place

-- where the first is done, the second; else the first
unfoldable pub and_then : Outcome → Outcome → Outcome
and_then first second = cond (is_done first) second first

-- the outcome of reading the second file handed in
unfoldable pub in_second : Outcome → Outcome
in_second o = record { number = o.number; file = cond (is_done o) 0 1; place = o.place }

-- a buffer of `room` elements for a result of `needed` elements
unfoldable pub fits : ℕ → ℕ → Outcome → Outcome
fits needed room rest = guard (leb needed room) 21 needed rest

-- a buffer with a result at its front; elements past the result are untouched
unfoldable pub overwrite : {A : Type 0} → List A → List A → List A
overwrite old new = new ++ drop (length new) old

-- a lent buffer after a stage: its result where the stage is done, else as it was
unfoldable pub after : {A : Type 0} → Outcome → List A → List A → List A
after o new old = cond (is_done o) (overwrite old new) old
