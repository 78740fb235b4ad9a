-- The traces of conditions, effects, operators and axioms are their printings.
use Prim.Native.Nat.{ℕ}
use mathlib.Core.Path.{◌≡◌, refl}
use mathlib.Core.Bool.{true, and-true}
use mathlib.Core.List.{List, [], ◌∷◌, append-nil, append_assoc}
use lib.Dec.{eqb}
use Rattle.translator.specs.Format.{unsupported, bind}
use Rattle.translator.specs.Sas.{blank, line_feed, counted, printed_pair, printed_condition, printed_effect, printed_operator, printed_rule, is_name}
use Rattle.translator.specs.Stated.{variables_of, new_variable, supported_pair, supported_pairs, supported_effect, supported_effects, supported_operator}
use Rattle.translator.specs.Text.{says, each, free_pair, variable_fault, condition, conditions, effect, effects, operator, rule}
use Rattle.translator.proofs.Written.{written, writable}
use Rattle.translator.proofs.Traces.{is_fine, Prints}
use Rattle.translator.proofs.PrintsLaws.{prints, gives_always, gives_reaches, field_always, field_reaches}
use Rattle.translator.proofs.ListPrints.{unless_fine, test_number, free_number, count_prints, Lists, each_free, repeat_prints, counted_always, counted_reaches}
use Rattle.translator.proofs.PartPrints.{free_pair_prints, pairs_print}

variable_fine : (sizes given : List ℕ) (v : ℕ) → is_fine (variable_fault sizes given v) ≡ new_variable sizes given v
unfolding new_variable
variable_fine sizes given v = simp (unless_fine, and-true) refl

condition_prints : (sizes given : List ℕ) → Prints (condition sizes given) (λ p. true ≡ true) printed_pair (supported_pair sizes given)
unfolding condition written writable printed_pair supported_pair
condition_prints sizes given =
    prints
    (field_always (λ v e.
    field_always (λ value e.
    gives_always (record {
      fits = refl;
      text = simp append-nil refl;
      passes = simp (variable_fine, unless_fine, and-true) refl;
    }))))
    (λ p g. field_reaches p.variable refl (field_reaches p.value refl (gives_reaches p)))

pub conditions_print : (sizes given : List ℕ) (n : ℕ) → Lists printed_pair (λ l. true) (supported_pairs sizes given) n (conditions sizes given n)
unfolding conditions supported_pairs
conditions_print sizes given n =
    repeat_prints (condition sizes) (λ given p. p.variable ∷ given) (λ p. true) printed_pair (supported_pair sizes) (λ l. true) (supported_pairs sizes) (condition_prints sizes)
    refl (λ p l. refl) (λ s. refl) (λ s p l. refl) n given

-- the conditions of an effect
within_print : (n : ℕ) → Lists printed_condition (λ l. true) (λ l. true) n (each (free_pair blank) n)
unfolding printed_condition
within_print = each_free (free_pair blank) printed_condition (free_pair_prints blank)

effect_prints : (sizes given : List ℕ) → Prints (effect sizes given) (λ p. true ≡ true) printed_effect (supported_effect sizes given)
unfolding effect bind written writable printed_effect supported_effect
effect_prints sizes given =
    prints
    (counted_always _ _ (test_number blank (λ n. eqb n 0) unsupported) within_print (λ l g.
    field_always (λ v e.
    field_always (λ old e.
    field_always (λ new e.
    gives_always (record {
      fits = refl;
      text = simp append-nil refl;
      passes = simp (variable_fine, unless_fine, and-true) refl;
    }))))))
    (λ x g.
    counted_reaches _ _ (test_number blank (λ n. eqb n 0) unsupported) within_print x.conditions refl
    (field_reaches x.variable refl
    (field_reaches x.old refl
    (field_reaches x.new refl
    (gives_reaches x)))))

pub effects_print : (sizes given : List ℕ) (n : ℕ) → Lists printed_effect (λ l. true) (supported_effects sizes given) n (effects sizes given n)
unfolding effects supported_effects
effects_print sizes given n =
    repeat_prints (effect sizes) (λ given e. e.variable ∷ given) (λ e. true) printed_effect (supported_effect sizes) (λ l. true) (supported_effects sizes) (effect_prints sizes)
    refl (λ e l. refl) (λ s. refl) (λ s e l. refl) n given

pub operator_prints : (sizes : List ℕ) → Prints (operator sizes) (λ o. is_name o.name ≡ true) printed_operator (supported_operator sizes)
unfolding operator says written writable printed_operator counted supported_operator
operator_prints sizes =
    prints
    (field_always (λ w e.
    field_always (λ name named.
    counted_always _ _ (count_prints 64) (conditions_print sizes []) (λ prevail e.
    counted_always _ _ (count_prints 64) (effects_print sizes (variables_of prevail)) (λ effects e.
    field_always (λ cost e.
    field_always (λ w e.
    gives_always (record {
      fits = named;
      text = simp (append_assoc, append-nil) refl;
      passes = simp (unless_fine, and-true) refl;
    }))))))))
    (λ o g.
    field_reaches tt refl
    (field_reaches o.name g
    (counted_reaches _ _ (count_prints 64) (conditions_print sizes []) o.prevail refl
    (counted_reaches _ _ (count_prints 64) (effects_print sizes (variables_of o.prevail)) o.effects refl
    (field_reaches o.cost refl
    (field_reaches tt refl
    (gives_reaches o)))))))

pub rule_prints : Prints rule (λ r. true ≡ true) printed_rule (λ r. true)
unfolding rule says bind written writable printed_rule counted
rule_prints =
    prints
    (field_always (λ w e.
    counted_always _ _ (free_number line_feed) pairs_print (λ l g.
    field_always (λ v e.
    field_always (λ old e.
    field_always (λ new e.
    field_always (λ w e.
    gives_always (record { fits = refl; text = simp (append_assoc, append-nil) refl; passes = refl }))))))))
    (λ r g.
    field_reaches tt refl
    (counted_reaches _ _ (free_number line_feed) pairs_print r.conditions refl
    (field_reaches r.variable refl
    (field_reaches r.old refl
    (field_reaches r.new refl
    (field_reaches tt refl
    (gives_reaches r)))))))
