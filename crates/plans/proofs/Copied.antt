-- A list whose front is copied from a part of another: what its cells are, and what a row of cells holds then.
use Rattle.std.proofs.Common.{◌≡◌, ℕ, ◌+◌, ◌-◌, ◌≤◌, ◌<◌, List, ◌++◌, length, get_or, drop, take, ap, ◌∙◌, arith, length-drop}
use Rattle.std.proofs.lemmas.List.{get_or-take, get_or-drop, get_or_append_left, get_or-append_right, length-take-le, get_or-replicate}
use lib.ListN.{replicate}
use Rattle.files.specs.Clauses.{RowWithin}
use Rattle.files.specs.Dense.{row_pairs}
use Rattle.files.proofs.Filling.{zeros_entry}
use Rattle.files.proofs.RowValues.{row_pairs_copied}
use Rattle.plans.specs.Clauses.{ValuesCopied}

module _ (front old from : List ℕ) (base count : ℕ) (copied : front ≡ take (base + count - base) (drop base from)) (within : base + count ≤ length from) where
  front_long : length front ≡ count
  front_long = ap (λ (l : List ℕ). length l) copied ∙ length-take-le (base + count - base) (drop base from) (omega (arith, length-drop base from)) ∙ omega arith

  -- those of the part
  copied_front : (w : ℕ) → w < count → get_or (front ++ drop count old) w 0 ≡ get_or from (base + w) 0
  copied_front w h =
      get_or_append_left front (drop count old) 0 w (omega (arith, front_long))
      ∙ ap (λ (l : List ℕ). get_or l w 0) copied
      ∙ get_or-take (base + count - base) (drop base from) w 0 (omega arith)
      ∙ get_or-drop base from w 0

  -- and behind them those that were there
  copied_behind : (w : ℕ) → count ≤ w → get_or (front ++ drop count old) w 0 ≡ get_or old w 0
  copied_behind w h =
      get_or-append_right front (drop count old) count w 0 front_long h
      ∙ get_or-drop count old (w - count) 0
      ∙ ap (λ (n : ℕ). get_or old n 0) (omega arith)

-- zeros, with the front of other values
pub values_copied : (front values : List ℕ) (count : ℕ) → front ≡ take count values → count ≤ length values → ValuesCopied (front ++ drop count (replicate 64 0)) values count
values_copied front values count e r =
    let same : front ≡ take (0 + count - 0) (drop 0 values) = e ∙ ap (λ (n : ℕ). take n values) (omega arith) in
    record {
      copied = λ w h. copied_front front (replicate 64 0) values 0 count same (omega arith) w h ∙ ap (λ (n : ℕ). get_or values n 0) (omega arith);
      zero = λ w h. copied_behind front (replicate 64 0) values 0 count same (omega arith) w h ∙ zeros_entry 64 w;
    }
