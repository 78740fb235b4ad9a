-- A call as a row of stages, and what it answers and leaves by them.
use Rattle.std.specs.Prelude.{◌≡◌, true, cond, List, [], ◌∷◌}
use Rattle.files.specs.Outcome.{Outcome, done, is_done, and_then}
use Rattle.files.specs.Listed.{Refusal, listed}

-- a stage: its outcome, and what the lent buffers hold once it is done
pub record Stage (B : Type 0) : Type 0 where
  pub outcome : Outcome
  pub leaves : B

abbrev pub stage : {B : Type 0} → Outcome → B → Stage B
stage outcome leaves = record { outcome = outcome; leaves = leaves }

-- a stage beside buffers that it does not touch
abbrev pub beside : {B C : Type 0} → (B → C) → Stage B → Stage C
beside more s = stage s.outcome (more s.leaves)

-- a refusal ends the row
abbrev pub outcome_of : {B : Type 0} → List (Stage B) → Outcome
outcome_of [] = done
outcome_of (s ∷ stages) = and_then s.outcome (outcome_of stages)

-- buffers of finished stages hold their results, later ones are untouched
abbrev pub left_by : {B : Type 0} → List (Stage B) → B → B
left_by [] b = b
left_by (s ∷ stages) b = cond (is_done s.outcome) (left_by stages s.leaves) b

-- the answer of a call: the whole where every stage is done, and beside a refusal nothing
abbrev pub answer_by : {A B : Type 0} → List (Stage B) → A → (Outcome → A) → A
answer_by stages whole refused = cond (is_done (outcome_of stages)) whole (refused (outcome_of stages))

-- a call by its stages: what it answers, and what each lent buffer holds now
pub record ByStages {A B : Type 0} (stages : List (Stage B)) (whole : A) (refused : Outcome → A) (before : B) (given : A) (now : B) : Type 0 where
  pub answer : given ≡ answer_by stages whole refused
  pub buffers : now ≡ left_by stages before

-- the same, with an outcome of the call's list of refusals
pub record Answers {A B : Type 0} (refusals : List Refusal) (stages : List (Stage B)) (whole : A) (refused : Outcome → A) (before : B) (given : A) (now : B) : Type 0 where
  pub outcome : listed refusals (outcome_of stages) ≡ true
  pub numbers : given ≡ answer_by stages whole refused
  pub buffers : now ≡ left_by stages before
