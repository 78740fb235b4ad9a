-- Origins that fit two tasks, from a task back to one before it: they are accepted, and composed they fit again.
use Prim.Native.Nat.{ℕ, suc, ◌+◌, ◌≤◌, ◌<◌}
use mathlib.Core.Path.{◌≡◌, refl, sym, ap, ap₂, subst, ◌∙◌}
use mathlib.Core.Bool.{Bool, true}
use mathlib.Core.List.{List, [], ◌∷◌, map}
use native.Mathlib.Omega.{arith}
use lib.Dec.{ltb}
use lib.ListN.{length, get_or, length-map}
use borrow.Author.Tests.{le-leb, lt-ltb}
use Rattle.files.specs.Accepted.{rising, valid_values, accepted_origin}
use Rattle.files.specs.Below.{chosen_below}
use Rattle.files.specs.OriginFile.{VariableOrigin, Origin}
use Rattle.files.specs.Task.{Task, variable_count, action_count, size_of}
use Rattle.files.proofs.BelowLaws.{count_mono, chosen_length, chosen_at, Chosen, chosen, map_entry}
use Rattle.files.proofs.Done.{facts}
use Rattle.files.proofs.Logic.{split_le, and_join}
use Rattle.files.proofs.Valid.{Valid}
use Rattle.reduction.specs.Turns.{originals, origin_at, composed_variable, composed}
use Rattle.reduction.proofs.ReducedValid.{all_places}

-- numbers below a limit that strictly rise, by their places
pub record Rises (limit : ℕ) (ns : List ℕ) : Type 0 where
  pub below : (i : ℕ) → i < length ns → get_or ns i 0 < limit
  pub rise : (i j : ℕ) → i < j → j < length ns → get_or ns i 0 < get_or ns j 0

rises_from : (limit low : ℕ) (ns : List ℕ) → Rises limit ns → ((i : ℕ) → i < length ns → low ≤ get_or ns i 0) → rising limit low ns ≡ true
unfolding rising
rises_from limit low [] r h = refl
rises_from limit low (n ∷ ns) r h =
    simp facts (
      h 0 (omega arith),
      (
        r.below 0 (omega arith),
        rises_from limit (n + 1) ns
            (record { below = λ i l. r.below (suc i) (omega arith); rise = λ i j l k. r.rise (suc i) (suc j) (omega arith) (omega arith) })
            (λ i l. let above : n < get_or ns i 0 = r.rise 0 (suc i) (omega arith) (omega arith) in omega arith),
      ),
    )

pub rises_rising : (limit most : ℕ) (ns : List ℕ) → limit ≤ most → Rises limit ns → rising most 0 ns ≡ true
rises_rising limit most ns h r =
    rises_from most 0 ns (record { below = λ i l. omega (arith, r.below i l); rise = r.rise }) (λ i l. omega arith)

-- the numbers below a bound that pass a test
chosen_entry : (K : ℕ → Bool) (n i : ℕ) (c : Chosen K n i) → get_or (chosen_below n K) i 0 ≡ c.number
chosen_entry K n i c = ap (λ (p : ℕ). get_or (chosen_below n K) p 0) (sym c.rank) ∙ chosen_at K n c.number c.below c.passes

pub chosen_rises : (K : ℕ → Bool) (n : ℕ) → Rises n (chosen_below n K)
chosen_rises K n =
    record {
      below = λ i l. let c = chosen K n i (omega (arith, chosen_length K n)) in rw (chosen_entry K n i c) c.below;
      rise =
          λ i j h l.
          let c = chosen K n i (omega (arith, chosen_length K n)) in
          let d = chosen K n j (omega (arith, chosen_length K n)) in
          split_le d.number c.number
          (λ m. absurd (omega (arith, c.rank, d.rank, count_mono K d.number c.number m)))
          (λ m. rw (chosen_entry K n i c, chosen_entry K n j d) m);
    }

-- numbers looked up by rising places
pub rises_through : (limit : ℕ) (ns places : List ℕ) → Rises limit ns → Rises (length ns) places → Rises limit (map (λ i. get_or ns i 0) places)
rises_through limit ns places r q =
    record {
      below = λ i l. let l' : i < length places = omega (arith, long) in rw (entry i l') (r.below (get_or places i 0) (q.below i l'));
      rise =
          λ i j h l.
          let l' : j < length places = omega (arith, long) in
          rw (entry i (omega arith), entry j l') (r.rise (get_or places i 0) (get_or places j 0) (q.rise i j h l') (q.below j l'));
    }
  where
    long : length (map (λ i. get_or ns i 0) places) ≡ length places
    long = length-map places (λ i. get_or ns i 0)

    entry : (i : ℕ) → i < length places → get_or (map (λ i. get_or ns i 0) places) i 0 ≡ get_or ns (get_or places i 0) 0
    entry i l = map_entry (λ i. get_or ns i 0) places i 0 0 l

-- a variable origin gives each old value a new one
pub record VariableFits (t u : Task) (i : ℕ) (o : VariableOrigin) : Type 0 where
  pub long : length o.values ≡ size_of t o.variable
  pub inside : (d : ℕ) → d < length o.values → get_or o.values d 0 < size_of u i

pub record OriginFits (t u : Task) (o : Origin) : Type 0 where
  pub actions_long : length o.actions ≡ action_count u
  pub actions_rise : Rises (action_count t) o.actions
  pub variables_long : length o.variables ≡ variable_count u
  pub variables_rise : Rises (variable_count t) (map (λ v. v.variable) o.variables)
  pub variable : (i : ℕ) → i < variable_count u → VariableFits t u i (origin_at o i)

-- the variable of the origin at a place
pub variable_entry : (o : Origin) (i : ℕ) → i < length o.variables → get_or (map (λ v. v.variable) o.variables) i 0 ≡ (origin_at o i).variable
variable_entry o i h = map_entry (λ v. v.variable) o.variables i 0 (record { variable = 0; values = [] }) h

module _ (t u : Task) (o : Origin) (fits : OriginFits t u o) where
  pub variable_known : (i : ℕ) → i < variable_count u → (origin_at o i).variable < variable_count t
  variable_known i h =
      let l : i < length o.variables = omega (arith, fits.variables_long) in
      rw (← variable_entry o i l) (fits.variables_rise.below i (omega (arith, length-map o.variables (λ v. v.variable))))

  values_valid : Valid t → Valid u → (i : ℕ) → i < variable_count u → valid_values (origin_at o i) ≡ true
  unfolding valid_values
  values_valid ok after i h =
      let k = fits.variable i h in
      let v = (origin_at o i).variable in
      and_join (le-leb 1 (length (origin_at o i).values) (omega (arith, k.long, ok.size_least v (variable_known i h))))
      (and_join (le-leb (length (origin_at o i).values) 32 (omega (arith, k.long, ok.size_most v)))
      (all_places (λ n. ltb n 32) (origin_at o i).values 0 (λ d l. lt-ltb (get_or (origin_at o i).values d 0) 32 (omega (arith, k.inside d l, after.size_most i)))))

  pub fits_accepted : Valid t → Valid u → accepted_origin o ≡ true
  unfolding accepted_origin
  fits_accepted ok after =
      and_join (rises_rising (variable_count t) 64 (map (λ v. v.variable) o.variables) ok.variables_few fits.variables_rise)
      (and_join
      (all_places valid_values o.variables (record { variable = 0; values = [] }) (λ i l. values_valid ok after i (omega (arith, fits.variables_long))))
      (rises_rising (action_count t) 512 o.actions ok.actions_few fits.actions_rise))

-- composed origins
module _ (t u w : Task) (first second : Origin) (f : OriginFits t u first) (s : OriginFits u w second) where
  composed_entry : (i : ℕ) → i < variable_count w → origin_at (composed first second) i ≡ composed_variable first (origin_at second i)
  unfolding composed
  composed_entry i h =
      map_entry (composed_variable first) second.variables i (record { variable = 0; values = [] }) (record { variable = 0; values = [] })
      (omega (arith, s.variables_long))

  composed_numbers : (vs : List VariableOrigin) → map (λ v. v.variable) (map (composed_variable first) vs) ≡ map (λ i. (origin_at first i).variable) (map (λ v. v.variable) vs)
  unfolding composed_variable
  composed_numbers [] = refl
  composed_numbers (v ∷ vs) = ap (λ (l : List ℕ). (origin_at first v.variable).variable ∷ l) (composed_numbers vs)

  looked_up : (ns : List ℕ) → ((i : ℕ) → i < length ns → get_or ns i 0 < variable_count u)
      → map (λ i. get_or (map (λ v. v.variable) first.variables) i 0) ns ≡ map (λ i. (origin_at first i).variable) ns
  looked_up [] h = refl
  looked_up (n ∷ ns) h =
      ap₂ (λ (m : ℕ) (ms : List ℕ). m ∷ ms) (variable_entry first n (omega (arith, h 0 (omega arith), f.variables_long))) (looked_up ns (λ i l. h (suc i) (omega arith)))

  composed_rise : Rises (variable_count t) (map (λ v. v.variable) (composed first second).variables)
  unfolding composed
  composed_rise =
      let places = map (λ v. v.variable) second.variables in
      let numbers = map (λ v. v.variable) first.variables in
      let long : length numbers ≡ variable_count u = length-map first.variables (λ v. v.variable) ∙ f.variables_long in
      subst (Rises (variable_count t)) (looked_up places s.variables_rise.below ∙ sym (composed_numbers second.variables))
      (rises_through (variable_count t) numbers places f.variables_rise (subst (λ (n : ℕ). Rises n places) (sym long) s.variables_rise))

  composed_variable_lem : (i : ℕ) → i < variable_count w → VariableFits t w i (composed_variable first (origin_at second i))
  unfolding composed_variable
  composed_variable_lem i h =
      let o = origin_at second i in
      let known = variable_known u w second s i h in
      let before = origin_at first o.variable in
      let k = f.variable o.variable known in
      let later = s.variable i h in
      let longs : length (map (λ value. get_or o.values value 0) before.values) ≡ length before.values = length-map before.values (λ value. get_or o.values value 0) in
      record {
        long = longs ∙ k.long;
        inside =
            λ d l.
            let l' : d < length before.values = omega (arith, longs) in
            rw (map_entry (λ value. get_or o.values value 0) before.values d 0 0 l') (later.inside (get_or before.values d 0) (omega (arith, k.inside d l', later.long)));
      }

  pub composed_fits : OriginFits t w (composed first second)
  unfolding composed originals
  composed_fits =
      record {
        actions_long = length-map second.actions (λ n. get_or first.actions n 0) ∙ s.actions_long;
        actions_rise =
            rises_through (action_count t) first.actions second.actions f.actions_rise
            (subst (λ (n : ℕ). Rises n second.actions) (sym f.actions_long) s.actions_rise);
        variables_long = length-map second.variables (composed_variable first) ∙ s.variables_long;
        variables_rise = composed_rise;
        variable = λ i h. subst (VariableFits t w i) (sym (composed_entry i h)) (composed_variable_lem i h);
      }
