-- Names for the parts of what functions ask and ensure.
use Rattle.std.specs.Prelude.{ℕ, ◌+◌, ◌*◌, ◌≤◌, ◌<◌, ◌^◌, List, length, get_or}
use Rattle.plans.specs.Plan.{step_of}

-- each number of a step's line fits its columns
pub record NumbersFit (step action minutes total : ℕ) : Type 0 where
  pub step_fits : step < 10 ^ 4
  pub action_fits : action < 10 ^ 5
  pub minutes_fit : minutes < 10 ^ 9
  pub total_fits : total < 10 ^ 12

-- and the line fits the page
pub record LineFits (page : List ℕ) (at step action minutes total : ℕ) : Type 0 where
  pub numbers : NumbersFit step action minutes total
  pub room : at + 33 ≤ length page

-- few steps, of known actions whose costs are within the limit, and a page with room for their lines
pub record StepsFit (page plan costs : List ℕ) : Type 0 where
  pub few : length plan ≤ 4096
  pub known : (i : ℕ) → i < length plan → step_of plan i < 512
  pub cheap : (i : ℕ) → i < length plan → get_or costs (step_of plan i) 0 ≤ 1000000
  pub room : 33 * length plan ≤ length page

-- a signer of 4 bytes, and room for its line
pub record SignerFits (page : List ℕ) (at signer : ℕ) : Type 0 where
  pub below : signer < 2 ^ 32
  pub room : at + 33 ≤ length page
