-- The table of what could cover what, filled a column at a time.
use Prim.Native.Nat.{ℕ, ◌+◌, ◌*◌, ◌≤◌, ◌<◌}
use mathlib.Core.Path.{◌≡◌, refl, sym, ap, ◌∙◌}
use mathlib.Core.Bool.{Bool, true, false, ◌&&◌, ◌||◌, and-false, or-false}
use mathlib.Core.List.{List}
use native.Mathlib.Omega.{arith}
use lib.Dec.{eqb}
use lib.ListN.{length, get_or}
use borrow.Author.Tests.{eq-eqb, ne_eqb}
use Rattle.bits.specs.Sets.{in_words, Added}
use Rattle.bits.proofs.BitLaws.{in_empty_words, in_rows_with}
use Rattle.files.proofs.Logic.{split_le, and_join, or_right}
use Rattle.marking.specs.Clauses.{ColumnFilled}
use Rattle.marking.specs.Dense.{could_cover_at}

-- the column b is filled up to its cell a, and empty from there on; the other columns are as they were
pub record ColumnTo (f : ℕ → Bool) (actions b a : ℕ) (before table : List ℕ) : Type 0 where
  pub same : length table ≡ length before
  pub filled : (i : ℕ) → i < a → in_words table (8 * i) b ≡ f i
  pub empty : (i : ℕ) → a ≤ i → i < actions → in_words table (8 * i) b ≡ false
  pub others : (i j : ℕ) → j < 512 → (j ≡ b → ⊥) → in_words table (8 * i) j ≡ in_words before (8 * i) j

pub column_begins : (f : ℕ → Bool) (actions b : ℕ) (table : List ℕ) → ((i : ℕ) → i < actions → in_words table (8 * i) b ≡ false) → ColumnTo f actions b 0 table table
column_begins f actions b table h =
    record { same = refl; filled = λ i l. absurd (omega arith); empty = λ i _ l. h i l; others = λ i j _ _. refl }

pub column_kept : (f : ℕ → Bool) (actions b a : ℕ) (before table after : List ℕ) → ColumnTo f actions b a before table → a < actions → f a ≡ false → after ≡ table → ColumnTo f actions b (a + 1) before after
column_kept f actions b a before table after c l e q =
    rw q
    record {
      same = c.same;
      filled = λ i k. split_le a i (λ m. let here : i ≡ a = omega arith in rw here (c.empty a (omega arith) l ∙ sym e)) (λ m. c.filled i m);
      empty = λ i k m. c.empty i (omega arith) m;
      others = c.others;
    }

-- with b in the set of a, the sets have what they had, and b in that of a
module _ (a b : ℕ) (few : b < 512) (table after : List ℕ) (added : Added (8 * a) b table after) where
  there : in_words after (8 * a) b ≡ true
  there = in_rows_with table after a b added few a b few ∙ or_right (in_words table (8 * a) b) (and_join (eq-eqb a a refl) (eq-eqb b b refl))

  unchanged : (i j : ℕ) → j < 512 → eqb i a && eqb j b ≡ false → in_words after (8 * i) j ≡ in_words table (8 * i) j
  unchanged i j l e =
      in_rows_with table after a b added few i j l ∙ ap (λ (t : Bool). in_words table (8 * i) j || t) e ∙ or-false (in_words table (8 * i) j)

  other_row : (i j : ℕ) → j < 512 → (i ≡ a → ⊥) → in_words after (8 * i) j ≡ in_words table (8 * i) j
  other_row i j l n = unchanged i j l (ap (λ (t : Bool). t && eqb j b) (ne_eqb i a n))

  other_column : (i j : ℕ) → j < 512 → (j ≡ b → ⊥) → in_words after (8 * i) j ≡ in_words table (8 * i) j
  other_column i j l n = unchanged i j l (ap (λ (t : Bool). eqb i a && t) (ne_eqb j b n) ∙ and-false (eqb i a))

  pub column_set : (f : ℕ → Bool) (actions : ℕ) (before : List ℕ) → ColumnTo f actions b a before table → length after ≡ length table → f a ≡ true → ColumnTo f actions b (a + 1) before after
  column_set f actions before c same e =
      record {
        same = same ∙ c.same;
        filled =
            λ i k.
            split_le a i
            (λ m. let here : i ≡ a = omega arith in rw here (there ∙ sym e))
            (λ m. other_row i b few (omega arith) ∙ c.filled i m);
        empty = λ i k m. other_row i b few (omega arith) ∙ c.empty i (omega arith) m;
        others = λ i j k n. other_column i j k n ∙ c.others i j k n;
      }

-- the columns before b are filled, and the others empty
pub record ColumnsTo (f : ℕ → ℕ → Bool) (actions b : ℕ) (table : List ℕ) : Type 0 where
  pub filled : (j a : ℕ) → j < b → a < actions → in_words table (8 * a) j ≡ f j a
  pub empty : (j a : ℕ) → b ≤ j → j < 512 → in_words table (8 * a) j ≡ false

pub columns_begin : (f : ℕ → ℕ → Bool) (actions : ℕ) (table : List ℕ) → ((i : ℕ) → get_or table i 0 ≡ 0) → ColumnsTo f actions 0 table
columns_begin f actions table h = record { filled = λ j a l. absurd (omega arith); empty = λ j a _ _. in_empty_words table (8 * a) j h }

pub columns_next : (costs conditions : List ℕ) (variables actions b : ℕ) (before after : List ℕ) → ColumnsTo (could_cover_at costs conditions variables) actions b before → b < 512 → ColumnFilled costs conditions variables actions b before after → ColumnsTo (could_cover_at costs conditions variables) actions (b + 1) after
columns_next costs conditions variables actions b before after c few new =
    record {
      filled =
          λ j a l k.
          split_le b j
          (λ m. let here : j ≡ b = omega arith in rw here (new.column a k))
          (λ m. new.others a j (omega arith) (λ q. omega arith) ∙ c.filled j a m k);
      empty = λ j a l k. new.others a j k (λ q. omega arith) ∙ c.empty j a (omega arith) k;
    }
