-- The loops over rows of actions by fact: from one turn to the next, and at the end.
use Prim.Native.Nat.{ℕ, ◌+◌, ◌*◌, ◌≤◌, ◌<◌}
use mathlib.Core.Path.{◌≡◌, refl, sym, ap, ap₂, subst, ◌∙◌}
use mathlib.Core.Bool.{Bool, ◌&&◌}
use mathlib.Core.List.{List}
use native.Mathlib.Omega.{arith}
use native.Mathlib.Numerals.{add-one}
use lib.ListN.{get_or, replicate}
use Rattle.files.specs.Below.{all_below, sum_of}
use Rattle.files.proofs.Logic.{split_le}
use Rattle.files.proofs.LoopCounts.{sum_within}
use Rattle.lookup.specs.FactRows.{most_facts, leads_to_fact, costs_within, fact_number, RowsByFact, CheapRows, RowsFor, InAllRows, InCheapRows, VariablePut}
use Rattle.bits.specs.Sets.{in_words, Kept, AllPut}
use Rattle.bits.proofs.BitLaws.{in_both_words, in_full_words, in_row_before}

pub sum_none : (l : List ℕ) → 0 ≡ sum_of l 0
unfolding sum_of
sum_none l = refl

-- the row of the actions that pass a test was written, and no word before it
pub record RowPut (test : ℕ → Bool) (actions at : ℕ) (rows₀ rows : List ℕ) : Type 0 where
  pub has : (a : ℕ) → a < actions → in_words rows at a ≡ test a
  pub before : (i : ℕ) → i < at → get_or rows i 0 ≡ get_or rows₀ i 0

-- the rows of a variable
module _ (conditions effects : List ℕ) (v actions fact : ℕ) (few : actions ≤ 512) (rows₀ : List ℕ) where
  pub variable_begin : VariablePut conditions effects v 0 actions fact rows₀ rows₀
  variable_begin = record { has = λ z a l. absurd (omega arith); before = λ i l. refl }

  pub variable_next : (rows rows' : List ℕ) (value : ℕ) → VariablePut conditions effects v value actions fact rows₀ rows
      → RowPut (leads_to_fact conditions effects v value) actions (8 * (fact + value)) rows rows' → VariablePut conditions effects v (value + 1) actions fact rows₀ rows'
  variable_next rows rows' value p r =
      record {
        has =
            λ z a l h.
            split_le value z
            (λ m.
            let here : value ≡ z = omega arith in
            subst (λ (y : ℕ). in_words rows' (8 * (fact + y)) a ≡ leads_to_fact conditions effects v y a) here (r.has a h))
            (λ m. in_row_before rows' rows (8 * (fact + z)) (8 * (fact + value)) r.before (omega arith) a (omega arith) ∙ p.has z a m h);
        before = λ i l. r.before i (omega arith) ∙ p.before i l;
      }

  pub variable_put : (rows rows' : List ℕ) (value : ℕ) (passes : ℕ → Bool → Type 0) → VariablePut conditions effects v value actions fact rows₀ rows
      → AllPut passes (8 * (fact + value)) actions rows rows' → ((a : ℕ) (b : Bool) → passes a b → b ≡ leads_to_fact conditions effects v value a)
      → VariablePut conditions effects v (value + 1) actions fact rows₀ rows'
  variable_put rows rows' value passes p put means =
      variable_next rows rows' value p (record { has = λ a h. means a (in_words rows' (8 * (fact + value)) a) (put.has a h); before = put.before })

  pub variable_end : (rows : List ℕ) (value size : ℕ) → value ≤ size → size ≤ value → VariablePut conditions effects v value actions fact rows₀ rows
      → VariablePut conditions effects v size actions fact rows₀ rows
  variable_end rows value size l m p = record { has = λ z a h. p.has z a (omega arith); before = p.before }

-- the rows of the variables before v
module _ (sizes conditions effects : List ℕ) (actions : ℕ) where
  pub rows_begin : (rows : List ℕ) → RowsByFact 0 actions sizes conditions effects rows
  rows_begin rows v z a h = absurd (omega arith)

  pub rows_next : (rows rows' : List ℕ) (v fact size : ℕ) → actions ≤ 512 → fact ≡ sum_of sizes v → size ≡ get_or sizes v 0
      → RowsByFact v actions sizes conditions effects rows → VariablePut conditions effects v size actions fact rows rows'
      → RowsByFact (v + 1) actions sizes conditions effects rows'
  rows_next rows rows' v fact size few e f all p u z a h l k =
      split_le v u
      (λ m.
      let here : v ≡ u = omega arith in
      let below : z < size = omega (arith, f, ap (λ (w : ℕ). get_or sizes w 0) here) in
      let at : 8 * (fact + z) ≡ 8 * fact_number sizes u z = ap (λ (x : ℕ). 8 * (x + z)) (e ∙ ap (sum_of sizes) here) in
      sym (ap (λ (x : ℕ). in_words rows' x a) at) ∙ p.has z a below k ∙ ap (λ (w : ℕ). leads_to_fact conditions effects w z a) here)
      (λ m.
      in_row_before rows' rows (8 * fact_number sizes u z) (8 * fact) p.before (omega (arith, sum_within sizes u v (sum_of sizes u) m refl)) a (omega arith)
      ∙ all u z a m l k)

  pub rows_end : (rows : List ℕ) (v variables : ℕ) → variables ≤ v → RowsByFact v actions sizes conditions effects rows
      → RowsByFact variables actions sizes conditions effects rows
  rows_end rows v variables h all u z a l = all u z a (omega arith)

-- they stand where a row is written behind them
pub rows_kept : (variables actions : ℕ) (sizes conditions costs : List ℕ) (most : ℕ) (rows rows' : List ℕ) → sum_of sizes variables ≤ most_facts → actions ≤ 512
    → RowsByFact variables actions sizes conditions conditions rows → RowPut (costs_within costs most) actions (8 * most_facts) rows rows'
    → CheapRows variables actions sizes conditions costs most rows'
rows_kept variables actions sizes conditions costs most rows rows' few actions_few all put =
    record {
      by_fact =
          λ v z a h l k.
          in_row_before rows' rows (8 * fact_number sizes v z) (8 * most_facts) put.before (omega (arith, sum_within sizes v variables (sum_of sizes v) h refl, few)) a (omega arith)
          ∙ all v z a h l k;
      cheap = put.has;
    }

pub cheap_put : (variables actions : ℕ) (sizes conditions costs : List ℕ) (most : ℕ) (rows rows' : List ℕ) (passes : ℕ → Bool → Type 0) → sum_of sizes variables ≤ most_facts → actions ≤ 512
    → RowsByFact variables actions sizes conditions conditions rows → AllPut passes (8 * most_facts) actions rows rows'
    → ((a : ℕ) (b : Bool) → passes a b → b ≡ costs_within costs most a) → CheapRows variables actions sizes conditions costs most rows'
cheap_put variables actions sizes conditions costs most rows rows' passes few actions_few all put means =
    rows_kept variables actions sizes conditions costs most rows rows' few actions_few all
    (record { has = λ a h. means a (in_words rows' (8 * most_facts) a) (put.has a h); before = put.before })

-- the actions that are in the rows of the values before v
module _ (sizes values rows : List ℕ) where
  pub fact_inside : (variables v fact value : ℕ) → RowsFor variables sizes values rows → v < variables → fact ≡ sum_of sizes v → value ≡ get_or values v 0
      → fact + value < most_facts
  fact_inside variables v fact value r h e f = omega (arith, sum_within sizes v variables fact h e, r.inside v h, r.few.facts_few)

  pub all_begin : InAllRows 0 sizes values rows (replicate 8 18446744073709551615)
  all_begin a h = in_full_words a h

  pub all_next : (words words' : List ℕ) (v fact value : ℕ) → fact ≡ sum_of sizes v → value ≡ get_or values v 0
      → InAllRows v sizes values rows words → Kept rows (8 * (fact + value)) words words' → InAllRows (v + 1) sizes values rows words'
  all_next words words' v fact value e f all kept a h =
      let test : ℕ → Bool = λ u. in_words rows (8 * fact_number sizes u (get_or values u 0)) a in
      in_both_words rows words words' (8 * (fact + value)) kept a h
      ∙ ap₂ ◌&&◌ (λ i. in_words rows (8 * (e i + f i)) a) (all a h)
      ∙ sym (ap (λ (n : ℕ). all_below n test) (add-one v))

  pub all_end : (words : List ℕ) (v variables : ℕ) → v ≤ variables → variables ≤ v → InAllRows v sizes values rows words → InAllRows variables sizes values rows words
  all_end words v variables l m all =
      let is : v ≡ variables = omega arith in
      subst (λ (n : ℕ). InAllRows n sizes values rows words) is all

-- those of them that are cheap enough
pub all_cheap : (variables : ℕ) (sizes values rows words words' : List ℕ) → InAllRows variables sizes values rows words → Kept rows (8 * most_facts) words words'
    → InCheapRows variables sizes values rows words'
all_cheap variables sizes values rows words words' all kept a h =
    in_both_words rows words words' (8 * most_facts) kept a h ∙ ap (λ (b : Bool). in_words rows (8 * most_facts) a && b) (all a h)
