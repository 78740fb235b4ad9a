-- The loop over the actions that can lead to a state: the entries are those that the actions before the next of them offer.
use Prim.Native.Nat.{ℕ, ◌+◌, ◌*◌, ◌≤◌, ◌<◌}
use mathlib.Core.Path.{◌≡◌, refl, sym, ap, ap₂, subst, ◌∙◌}
use mathlib.Core.Bool.{Bool, true, false, cond, ◌&&◌}
use mathlib.Core.List.{List, []}
use native.Mathlib.Numerals.{add-one}
use native.Mathlib.Omega.{arith}
use lib.ListN.{length, get_or}
use Rattle.files.specs.declared.arrays.Arrays.{Arrays}
use Rattle.files.specs.Dense.{row_action}
use Rattle.files.specs.Task.{Action}
use Rattle.plans.specs.State.{State}
use Rattle.plans.specs.Tally.{list_state}
use Rattle.distances.specs.States.{state_at}
use Rattle.distances.specs.Entries.{is_none, lowered, after_step, Low, StepOn, table_entry}
use Rattle.distances.specs.Rows.{leads_to, offered, row_variables, row_states, row_state, can_reach, differs_only}
use Rattle.distances.specs.Selecting.{Selecting, Offers}
use Rattle.distances.specs.Bounds.{NoneAbove}
use Rattle.bits.specs.Sets.{in_words, FirstFrom}
use Rattle.lookup.specs.FactRows.{InAllRows}
use Rattle.lookup.specs.declared.moves.Move.{Move}
use Rattle.distances.specs.Tables.{TablesOf}
use Rattle.distances.specs.Offers.{differs_from, free_of, number_before, CanLead, StepsOffered}
use Rattle.distances.specs.declared.Entry.{Entry}
use Rattle.distances.specs.declared.selection.Selection.{Selection}
use Rattle.distances.proofs.OneChange.{state_inside}
use Rattle.distances.proofs.EntryLaws.{Near, near_some, near_after}
use Rattle.distances.proofs.FactRowLaws.{words_reach}
use Rattle.distances.proofs.Predecessors.{leads_is}
use Rattle.distances.proofs.OfferActions.{leads_free, taken_most, number_below, free_zero}
use Rattle.distances.proofs.BoundLaws.{above_offered}
use Rattle.distances.proofs.Offering.{offered_skip}

-- the actions in the words are those that can lead to state x
abbrev pub Leading : (d : Arrays) (x : ℕ) (words : List ℕ) → Type 0
Leading d x words = (a : ℕ) → a < d.actions → in_words words 0 a ≡ can_reach d.conditions d.effects (64 * a) d.variables (row_state d.variables d.sizes x)

module _ (d : Arrays) (x : ℕ) (words : List ℕ) (bound : Entry) (entries₀ : List Entry) (x₀ : Selection) where
  abbrev offered_by : ℕ → ℕ → Entry
  offered_by s a = offered (row_variables d.variables d.sizes d.starts) (row_action d.variables d.costs d.conditions d.effects) x (table_entry entries₀ x) s (table_entry entries₀ s) a

  -- the entries that the actions before a offer
  abbrev Before : List Entry → ℕ → Type 0
  Before entries a = (s : ℕ) → s < length entries₀ → table_entry entries s ≡ offered_by s a

  pub record Actions (entries : List Entry) (y : Selection) (a : ℕ) : Type 0 where
    pub leading : Leading d x words
    pub same : length entries ≡ length entries₀
    pub offers : Before entries a
    pub settled_is : y.settled ≡ x₀.settled
    pub selecting : Selecting entries y
    pub above : NoneAbove (length entries) entries bound

-- tables of a search, and a state x
module _ (d : Arrays) (weights rows : List ℕ) (moves : List Move) (of : TablesOf d weights rows moves) (x : ℕ) where
  -- words that are those of the rows of its values
  module _ (values : List ℕ) (values_are : (starts : List ℕ) → list_state values ≡ state_at (row_variables d.variables d.sizes starts) x) where
    own : list_state values ≡ row_state d.variables d.sizes x
    unfolding row_state
    own = values_are []

    pub values_inside : (v : ℕ) → v < d.variables → get_or values v 0 < get_or d.sizes v 0
    unfolding list_state
    values_inside v h = omega (arith, ap (λ (s : State). s v) own, state_inside d.sizes d.variables of.numbered.size_least x v h)

    pub leads : (words : List ℕ) → InAllRows d.variables d.sizes values rows words → Leading d x words
    leads words all a h =
        words_reach d.variables d.actions d.sizes d.conditions d.effects rows values words of.tables.rows_are all values_inside a h (omega (arith, h, of.tables.asked.actions_few))
        ∙ ap (can_reach d.conditions d.effects (64 * a) d.variables) own

  pub cost_few : (a : ℕ) → a < d.actions → get_or d.costs a 0 ≤ 1000000
  cost_few a h = of.tables.asked.cost_most a h

  pub actions_few : d.actions ≤ 512
  actions_few = of.tables.asked.actions_few

  -- the entry with a step by an action
  module _ (a : ℕ) (h : a < d.actions) (e : Entry) (low : Low e) where
    pub step_on : StepOn e (get_or d.costs a 0)
    step_on = record { low = low; cost_most = cost_few a h }

    pub step_near : (new : Entry) → ((b : Action) → b.cost ≡ get_or d.costs a 0 → new ≡ after_step b e) → is_none new ≡ false
    step_near new stepped =
        let b : Action = record { cost = get_or d.costs a 0; conditions = []; effects = [] } in
        near_some new (subst Near (sym (stepped b refl)) (near_after b e (cost_few a h) low))

  module _ (below : x < row_states d.variables d.sizes) (words : List ℕ) (bound : Entry) (entries₀ : List Entry) (x₀ : Selection) where
    -- an action that is not in them does not lead there
    not_leading : Leading d x words → (s a : ℕ) → a < d.actions → in_words words 0 a ≡ false → leads_to (row_variables d.variables d.sizes d.starts) (row_action d.variables d.costs d.conditions d.effects a) s x ≡ false
    unfolding row_action
    not_leading leading s a h e =
        leads_is d.sizes d.conditions d.effects d.variables (64 * a) of.numbered.size_least (λ v l k. of.tables.asked.effect_inside a v h l k) (row_action d.variables d.costs d.conditions d.effects a) refl refl d.starts s x below
        ∙ ap (λ (b : Bool). b && differs_only d.conditions d.effects (64 * a) d.variables 0 (row_state d.variables d.sizes x) (row_state d.variables d.sizes s)) (sym (leading a h) ∙ e)

    -- on to the next of them
    passed : Leading d x words → (entries : List Entry) (from a : ℕ) → Before d x words bound entries₀ x₀ entries from → FirstFrom (in_words words 0) d.actions from a → Before d x words bound entries₀ x₀ entries a
    passed leading entries from a o f s l =
        o s l
        ∙ offered_skip (row_variables d.variables d.sizes d.starts) (row_action d.variables d.costs d.conditions d.effects) x (table_entry entries₀ x) s (table_entry entries₀ s) from a f.first
        (λ b k h. not_leading leading s b (omega (arith, h, f.last)) (f.skipped b k h))

    pub actions_begin : Leading d x words → Selecting entries₀ x₀ → NoneAbove (length entries₀) entries₀ bound → Actions d x words bound entries₀ x₀ entries₀ x₀ 0
    unfolding offered
    actions_begin leading selecting above = record { leading = leading; same = refl; offers = λ s l. refl; settled_is = refl; selecting = selecting; above = above }

    module _ (entries : List Entry) (y : Selection) (from a : ℕ) (c : Actions d x words bound entries₀ x₀ entries y from) (f : FirstFrom (in_words words 0) d.actions from a) where
      pub actions_end : d.actions ≤ a → StepsOffered d x bound entries₀ x₀ entries y
      actions_end h =
          let is : a ≡ d.actions = omega (arith, f.last) in
          record {
            offers = λ s l. passed c.leading entries from a c.offers f s l ∙ ap (offered_by d x words bound entries₀ x₀ s) is;
            settled_is = c.settled_is;
            selecting = c.selecting;
            above = c.above;
          }

      module _ (h : a < d.actions) where
        reaches : can_reach d.conditions d.effects (64 * a) d.variables (row_state d.variables d.sizes x) ≡ true
        reaches = sym (c.leading a h) ∙ f.there h

        pub can_lead : CanLead d moves x a
        can_lead =
            let n = row_states d.variables d.sizes in
            record {
              few = omega (arith, h, actions_few);
              taken = taken_most d.variables d.actions n d.sizes weights d.costs d.conditions d.effects rows moves of.numbered of.tables x below a h reaches;
              before =
                  record {
                    start = omega arith;
                    below = number_below d.variables d.actions n d.sizes weights d.costs d.conditions d.effects rows moves of.numbered of.tables x below a h reaches;
                    zero = λ v k. free_zero d.variables d.actions n d.sizes weights d.costs d.conditions d.effects rows moves of.numbered of.tables x below a h reaches v;
                  };
            }

        pub actions_next : (new : Entry) → ((b : Action) → b.cost ≡ get_or d.costs a 0 → new ≡ after_step b (table_entry entries₀ x))
            → (entries' : List Entry) (y' : Selection) → length entries' ≡ length entries
            → Offers (differs_from d.sizes d.variables (free_of moves a) 0 (number_before moves a x)) new entries y entries' y'
            → Actions d x words bound entries₀ x₀ entries' y' (a + 1)
        unfolding offered row_action
        actions_next new stepped entries' y' same o =
            let test = differs_from d.sizes d.variables (free_of moves a) 0 (number_before moves a x) in
            record {
              leading = c.leading;
              same = same ∙ c.same;
              offers =
                  λ s l.
                  let b : Action = row_action d.variables d.costs d.conditions d.effects a in
                  o.offered s (omega (arith, c.same))
                  ∙ ap (λ (t : Bool). cond t (lowered new (table_entry entries s)) (table_entry entries s))
                  (leads_free d.variables d.actions (row_states d.variables d.sizes) d.sizes weights d.costs d.conditions d.effects rows moves of.numbered of.tables x below a h reaches d.starts s)
                  ∙ ap₂ (λ (z old : Entry). cond (leads_to (row_variables d.variables d.sizes d.starts) b s x) (lowered z old) old) (stepped b refl) (passed c.leading entries from a c.offers f s l)
                  ∙ ap (offered_by d x words bound entries₀ x₀ s) (sym (add-one a));
              settled_is = o.settled_is ∙ c.settled_is;
              selecting = o.selecting;
              above = subst (λ (n : ℕ). NoneAbove n entries' bound) (sym same) (above_offered test (length entries) new entries bound c.above entries' o.offered);
            }
