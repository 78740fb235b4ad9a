-- The arrays that the code fills hold the reduced task and its origins, for the actions that are marked.
use Prim.Native.Nat.{ℕ, ◌+◌, ◌*◌, ◌≤◌, ◌<◌}
use mathlib.Core.Path.{◌≡◌, ap, ◌∙◌}
use mathlib.Core.Bool.{Bool}
use mathlib.Core.List.{List}
use native.Mathlib.Omega.{arith}
use lib.Dec.{eqb}
use lib.ListN.{get_or}
use Rattle.files.specs.Below.{bit, chosen_below}
use Rattle.files.specs.Dense.{row_numbers, held, held_origin, arrays, origin_arrays}
use Rattle.files.specs.declared.arrays.Arrays.{Arrays}
use Rattle.files.specs.Task.{size_of}
use Rattle.files.proofs.Valid.{Valid}
use Rattle.marking.specs.Links.{threatened}
use Rattle.marking.specs.Dense.{is_marked}
use Rattle.files.proofs.HeldTask.{variables_held, size_held}
use Rattle.files.proofs.Truth.{bit_marked}
use Rattle.reduction.specs.Clauses.{ChosenAre, Numbered}
use Rattle.reduction.specs.Dense.{named_at, changed_at, named_value, keeps_at, new_value_at, new_size_at, mapped_cell}
use Rattle.reduction.specs.Named.{named, kept_variable}
use Rattle.reduction.specs.Renumber.{new_value}
use Rattle.reduction.specs.ReducedBy.{reduced_by, origin_by}
use Rattle.reduction.proofs.NamedHeld.{named_held, changed_held, keeps_held, new_value_held, new_size_held}
use Rattle.reduction.proofs.ReducedHeld.{chosen_alike, number_known, reduced_held, origin_held}

-- numbers that a loop chose are below its bound
module _ {K : ℕ → Bool} {n limit count : ℕ} {numbers : List ℕ} (h : n ≤ limit) (chosen : ChosenAre numbers count n K) where
  pub chosen_numbered : Numbered numbers count limit
  chosen_numbered = record { few = omega (arith, chosen.at_most); known = λ i l. omega (arith, (number_known K n numbers count chosen.are i l).0) }

module _ (d : Arrays) (ok : Valid (held d)) (kept marks changed values numbers originals : List ℕ) (count actions : ℕ)
    (m : (i : ℕ) → i < 2048 → get_or marks i 0 ≡ bit (named_at d.goal d.conditions d.sizes kept d.variables d.actions i))
    (ch : (v : ℕ) → v < 64 → get_or changed v 0 ≡ bit (changed_at d.effects d.starts kept d.variables d.actions v))
    (vals : (v e : ℕ) → v < d.variables → e < 32 → get_or values (32 * v + e) 0 ≡ new_value_at marks v e)
    (nums : ChosenAre numbers count d.variables (keeps_at marks changed d.starts))
    (acts : ChosenAre originals actions d.actions (is_marked kept)) where
  few : d.variables ≤ 64
  few = omega (arith, ok.variables_few, variables_held d)

  pub ranges_small : (range : ℕ → ℕ) → ((i : ℕ) → i < count → range i ≡ get_or d.sizes (get_or numbers i 0) 0) → (i : ℕ) → i < count → range i ≤ 32
  ranges_small range r i l =
      let known = (number_known (keeps_at marks changed d.starts) d.variables numbers count nums.are i l).0 in
      omega (arith, r i l, size_held d (get_or numbers i 0) known, ok.size_most (get_or numbers i 0))

  module _ (A : ℕ → Bool) (bits : (a : ℕ) → a < d.actions → get_or kept a 0 ≡ bit (A a)) where
    fact : (v e : ℕ) → v < d.variables → e < 32 → named_value marks v e ≡ named (held d) A v e
    fact v e h k =
        let place = named_at d.goal d.conditions d.sizes kept d.variables d.actions (32 * v + e) in
        ap (λ (n : ℕ). eqb n 1) (m (32 * v + e) (omega (arith, few))) ∙ bit_marked place ∙ named_held d ok kept A bits v e h k

    change : (v : ℕ) → v < d.variables → is_marked changed v ≡ threatened (held d) A v
    change v h =
        let test = changed_at d.effects d.starts kept d.variables d.actions v in
        ap (λ (n : ℕ). eqb n 1) (ch v (omega (arith, few))) ∙ bit_marked test ∙ changed_held d ok kept A bits v h

    are : row_numbers numbers 0 count ≡ chosen_below d.variables (kept_variable (held d) A)
    are = nums.are ∙ chosen_alike d.variables (keeps_at marks changed d.starts) (kept_variable (held d) A) (keeps_held d ok kept A bits marks changed fact change)

    chosen_actions : row_numbers originals 0 actions ≡ chosen_below d.actions A
    chosen_actions = acts.are ∙ chosen_alike d.actions (is_marked kept) A (λ a l. ap (λ (n : ℕ). eqb n 1) (bits a l) ∙ bit_marked (A a))

    value : (v e : ℕ) → v < d.variables → e < size_of (held d) v → get_or values (32 * v + e) 0 ≡ new_value (held d) A v e
    value v e h k = vals v e h (omega (arith, ok.size_most v)) ∙ new_value_held d ok kept A bits marks changed fact change v e h k

    pub task_filled : (sizes starts goal costs conditions effects : List ℕ)
        → ((i : ℕ) → i < count → get_or sizes i 0 ≡ new_size_at marks (get_or numbers i 0) (get_or d.sizes (get_or numbers i 0) 0))
        → ((i : ℕ) → i < count → get_or starts i 0 ≡ mapped_cell values (get_or numbers i 0) (get_or d.starts (get_or numbers i 0) 0))
        → ((i : ℕ) → i < count → get_or goal i 0 ≡ mapped_cell values (get_or numbers i 0) (get_or d.goal (get_or numbers i 0) 0))
        → ((j default : ℕ) → j < actions → get_or costs j default ≡ get_or d.costs (get_or originals j 0) default)
        → ((j i : ℕ) → j < actions → i < count → get_or conditions (64 * j + i) 0 ≡ mapped_cell values (get_or numbers i 0) (get_or d.conditions (64 * get_or originals j 0 + get_or numbers i 0) 0))
        → ((j i : ℕ) → j < actions → i < count → get_or effects (64 * j + i) 0 ≡ mapped_cell values (get_or numbers i 0) (get_or d.effects (64 * get_or originals j 0 + get_or numbers i 0) 0))
        → held (arrays count actions sizes starts goal costs conditions effects) ≡ reduced_by (held d) A
    task_filled sizes starts goal costs conditions effects si st go co cd ef =
        reduced_held d ok A values numbers count value are originals actions chosen_actions sizes starts goal costs conditions effects
        (λ i l.
        let known = (number_known (kept_variable (held d) A) d.variables numbers count are i l).0 in
        si i l ∙ new_size_held d ok kept A bits marks changed fact change (get_or numbers i 0) known)
        st
        (λ i l.
        let first : 0 + i ≡ i = omega arith in
        let from : 0 + get_or numbers i 0 ≡ get_or numbers i 0 = omega arith in
        rw (first, from) (go i l))
        (λ j l. co j 0 l) cd ef

    pub origin_filled : (ranges rows : List ℕ)
        → ((i : ℕ) → i < count → get_or ranges i 0 ≡ get_or d.sizes (get_or numbers i 0) 0)
        → ((i e : ℕ) → i < count → e < 32 → get_or rows (32 * i + e) 0 ≡ get_or values (32 * get_or numbers i 0 + e) 0)
        → held_origin (origin_arrays count actions numbers ranges rows originals) ≡ origin_by (held d) A
    origin_filled ranges rows ra ro = origin_held d ok A values numbers count value are originals actions chosen_actions ranges rows ra ro
