-- What holds of each kind of signed file: accepted contents, files that read back, and one file for one content.
use Rattle.std.specs.Prelude.{ℕ, ◌≡◌, Bool, true, List}
use Rattle.files.specs.Outcome.{Outcome, done}
use Rattle.files.specs.Accepted.{valid_signer}
use Rattle.files.specs.Bytes.{Octets}
use Rattle.files.specs.Reading.{reading, under}
use Rattle.files.specs.Records.{signer_of}

-- a kind of file: its check, what a file holds, what is accepted, and the file that is written
pub record KindRight {A : Type 0} (check : List ℕ → Outcome) (content : List ℕ → A) (accepted : A → Bool) (file : A → ℕ → List ℕ) : Type 0 where
  -- accepted (01): what a file holds that by itself gives no refusal; and the file of what is accepted gives none
  pub held : (f : List ℕ) → Octets f → check f ≡ done → accepted (content f) ≡ true
  pub signed : (f : List ℕ) → Octets f → check f ≡ done → valid_signer (signer_of f) ≡ true
  pub passes : (x : A) (signer : ℕ) → accepted x ≡ true → valid_signer signer ≡ true → check (file x signer) ≡ done
  -- a written file reads back as the same content, under its signer
  pub back : (x : A) (signer : ℕ) → accepted x ≡ true → valid_signer signer ≡ true
      → reading (check (file x signer)) (content (file x signer)) (signer_of (file x signer)) ≡ under x signer
  -- and one content under one signer has one file
  pub one : (f : List ℕ) (x : A) (signer : ℕ) → Octets f → reading (check f) (content f) (signer_of f) ≡ under x signer → f ≡ file x signer
