-- How the decoder's arrays are filled, entry by entry, as a loop over `count` entries wants it: what storing the entries
-- from i on gives, `whole`, is given again by those from the next one on, or is what the arrays hold.
use Prim.Native.Nat.{ℕ, zero, suc, ◌+◌, ◌-◌, ◌*◌, ◌%◌, ◌≤◌, ◌<◌}
use native.Mathlib.Omega.{arith}
use mathlib.Core.Path.{◌≡◌, refl, sym, ap, ap₂, ◌∙◌}
use mathlib.Core.List.{List}
use lib.ListN.{length, set, take, drop, replicate}
use borrow.Rule.Slice.PartMut.{put_mid}
use Rattle.std.proofs.lemmas.List.{length-replicate, length-take, length-drop}
use Rattle.files.proofs.Placed.{placed_at_once}
use Rattle.files.proofs.Countdown.{more_from, none_from}
use Rattle.files.specs.declared.arrays.Arrays.{Arrays}
use Rattle.files.specs.Bytes.{u16_at, placed}
use Rattle.files.specs.Records.{record_end}
use Rattle.files.specs.Rows.{cleared, stored, filled, filled_rows, stored_sizes, stored_starts, stored_costs, condition_lists, effect_lists, variables_stored, action_stored, actions_stored}
use Rattle.files.specs.TaskFile.{pairs_from, variables_from, action_from, actions_from}

-- a row filled at once
cleared_placed : (row : List ℕ) (at n : ℕ) → placed row at (replicate n 255) ≡ cleared row at n
unfolding cleared placed
cleared_placed row at zero = refl
cleared_placed row at (suc n) = cleared_placed (set row at 255) (at + 1) n

pub cleared_at_once : (row part : List ℕ) (at k n : ℕ) → at + k ≤ length row → n ≡ k → part ≡ replicate (length (take n (drop at row))) 255 → put_mid at n row part ≡ cleared row at k
cleared_at_once row part at k n h en e =
    let all : List ℕ = replicate k 255 in
    let long : length all ≡ k = length-replicate k 255 in
    let taken : length (take n (drop at row)) ≡ k = omega (arith, length-take n (drop at row), length-drop at row) in
    placed_at_once row at n all part (omega arith) (omega arith) (e ∙ ap (λ (m : ℕ). replicate m 255) taken) ∙ cleared_placed row at k

module _ (s : List ℕ) (i count : ℕ) where
  -- pairs
  module _ (row whole : List ℕ) (base at : ℕ) (w : filled row base (pairs_from s (at + 4 * i) (count - i)) ≡ whole) where
    pub filled_next : (row' : List ℕ) (v x : ℕ) → i < count → v ≡ u16_at s (at + 4 * i) → x ≡ u16_at s (at + 4 * i + 2) → row' ≡ stored row base v x
        → filled row' base (pairs_from s (at + 4 * (i + 1)) (count - (i + 1))) ≡ whole
    unfolding filled pairs_from
    filled_next row' v x h ev ex e =
        ap₂ (λ (l : List ℕ) (p : ℕ). filled l base (pairs_from s p (count - (i + 1)))) (e ∙ ap₂ (stored row base) ev ex) (omega arith)
        ∙ sym (ap (λ (n : ℕ). filled row base (pairs_from s (at + 4 * i) n)) (more_from i count h))
        ∙ w

    pub filled_none : count ≤ i → row ≡ whole
    unfolding filled pairs_from
    filled_none h = sym (ap (λ (n : ℕ). filled row base (pairs_from s (at + 4 * i) n)) (none_from i count h)) ∙ w

  -- variables
  module _ (d whole : Arrays) (w : variables_stored i (variables_from s (8 * i + 8) (count - i)) d ≡ whole) where
    pub variables_next : (size start : ℕ) → i < count → size ≡ u16_at s (8 * i + 8 + 4) → start ≡ u16_at s (8 * i + 8 + 6)
        → variables_stored (i + 1) (variables_from s (8 * (i + 1) + 8) (count - (i + 1))) (record d { sizes = set d.sizes i (size % 256); starts = set d.starts i (start % 256) }) ≡ whole
    unfolding placed stored_sizes stored_starts variables_from
    variables_next size start h es er =
        let at : 8 * (i + 1) + 8 ≡ 8 * i + 8 + 8 = omega arith in
        (λ j. variables_stored (i + 1) (variables_from s (at j) (count - (i + 1))) (record d { sizes = set d.sizes i (es j % 256); starts = set d.starts i (er j % 256) }))
        ∙ sym (ap (λ (n : ℕ). variables_stored i (variables_from s (8 * i + 8) n) d) (more_from i count h))
        ∙ w

    pub variables_none : count ≤ i → d ≡ whole
    unfolding placed stored_sizes stored_starts variables_from
    variables_none h = sym (ap (λ (n : ℕ). variables_stored i (variables_from s (8 * i + 8) n) d) (none_from i count h)) ∙ w

  -- actions, of which the next stands at `at`
  module _ (d whole : Arrays) (at : ℕ) (w : actions_stored i (actions_from s at (count - i)) d ≡ whole) where
    pub actions_next : (d' : Arrays) (next : ℕ) → i < count → next ≡ record_end s at → d' ≡ action_stored i (action_from s at) d
        → actions_stored (i + 1) (actions_from s next (count - (i + 1))) d' ≡ whole
    unfolding placed filled_rows stored_costs condition_lists effect_lists actions_from
    actions_next d' next h en ed =
        let k = count - (i + 1) in
        let base : 64 * (i + 1) ≡ 64 * i + 64 = omega arith in
        let x = action_stored i (action_from s at) d in
        let rest = actions_from s (record_end s at) k in
        ap₂ (λ (e : Arrays) (p : ℕ). actions_stored (i + 1) (actions_from s p k) e) ed en
        ∙ ap (λ (b : ℕ). record x { costs = placed x.costs (i + 1) (stored_costs rest); conditions = filled_rows x.conditions b (condition_lists rest); effects = filled_rows x.effects b (effect_lists rest) }) base
        ∙ sym (ap (λ (n : ℕ). actions_stored i (actions_from s at n) d) (more_from i count h))
        ∙ w

    pub actions_none : count ≤ i → d ≡ whole
    unfolding placed filled_rows stored_costs condition_lists effect_lists actions_from
    actions_none h = sym (ap (λ (n : ℕ). actions_stored i (actions_from s at n) d) (none_from i count h)) ∙ w

  -- the costs of actions
  module _ (costs whole : List ℕ) (at : ℕ) (w : placed costs i (stored_costs (actions_from s at (count - i))) ≡ whole) where
    pub costs_next : (cost next : ℕ) → i < count → next ≡ record_end s at → cost ≡ (action_from s at).cost
        → placed (set costs i cost) (i + 1) (stored_costs (actions_from s next (count - (i + 1)))) ≡ whole
    unfolding placed stored_costs actions_from
    costs_next cost next h en ec =
        ap₂ (λ (c p : ℕ). placed (set costs i c) (i + 1) (stored_costs (actions_from s p (count - (i + 1))))) ec en
        ∙ sym (ap (λ (n : ℕ). placed costs i (stored_costs (actions_from s at n))) (more_from i count h))
        ∙ w

    pub costs_none : count ≤ i → costs ≡ whole
    unfolding placed stored_costs actions_from
    costs_none h = sym (ap (λ (n : ℕ). placed costs i (stored_costs (actions_from s at n))) (none_from i count h)) ∙ w
