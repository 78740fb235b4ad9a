-- The traces of a text are the printings of what texts state.
use Prim.Native.Nat.{ℕ}
use mathlib.Core.Path.{◌≡◌, refl, sym, ap, ◌∙◌}
use mathlib.Core.Bool.{Bool, true, ◌&&◌, and-true}
use mathlib.Core.List.{List, [], ◌∷◌, ◌++◌, append-nil, append_assoc, map}
use lib.Dec.{eqb}
use lib.ListN.{length, length-map}
use Rattle.files.specs.Below.{all_of}
use Rattle.files.proofs.Logic.{and_split, and_join}
use Rattle.translator.specs.Format.{unsupported, bind}
use Rattle.translator.specs.Sas.{Declaration, Started, line_feed, joined, counted, printed_declaration, printed_variable, printed_group, printed_operator, printed_rule, printed, is_name, named_declaration, well_named}
use Rattle.translator.specs.Stated.{sizes_of, declared_in, supported_declaration, supported_operator, supported}
use Rattle.translator.specs.Text.{says, each, declaration, group, operator, rule, text}
use Rattle.translator.proofs.Written.{written, writable}
use Rattle.translator.proofs.Traces.{Prints}
use Rattle.translator.proofs.PrintsLaws.{prints, prints_reaches, gives_always, gives_reaches, field_always, field_reaches, bind_always, bind_reaches}
use Rattle.translator.proofs.ListPrints.{test_number, free_number, count_prints, Lists, each_all, each_free, counted_always, counted_reaches}
use Rattle.translator.proofs.PartPrints.{group_prints, declaration_prints}
use Rattle.translator.proofs.StartPrints.{starts_print}
use Rattle.translator.proofs.OperatorPrints.{conditions_print, operator_prints, rule_prints}

declarations_print : (n : ℕ) → Lists printed_declaration (all_of named_declaration) (all_of supported_declaration) n (each declaration n)
declarations_print = each_all declaration named_declaration printed_declaration supported_declaration declaration_prints

groups_print : (n : ℕ) → Lists printed_group (λ l. true) (λ l. true) n (each group n)
groups_print = each_free group printed_group group_prints

operators_print : (sizes : List ℕ) (n : ℕ) → Lists printed_operator (all_of (λ o. is_name o.name)) (all_of (supported_operator sizes)) n (each (operator sizes) n)
operators_print sizes = each_all (operator sizes) (λ o. is_name o.name) printed_operator (supported_operator sizes) (operator_prints sizes)

rules_print : (n : ℕ) → Lists printed_rule (λ l. true) (λ l. true) n (each rule n)
rules_print = each_free rule printed_rule rule_prints

-- the declarations of variables
abbrev declared : List Started → List Declaration
declared vs = map (λ v. v.declared) vs

declared_named : (vs : List Started) → all_of named_declaration (declared vs) ≡ all_of (λ v. named_declaration v.declared) vs
declared_named [] = refl
declared_named (v ∷ vs) = ap (λ (b : Bool). named_declaration v.declared && b) (declared_named vs)

declared_printed : (vs : List Started) → joined printed_declaration (declared vs) ≡ joined printed_variable vs
unfolding joined printed_variable
declared_printed [] = refl
declared_printed (v ∷ vs) = ap (λ (s : List ℕ). printed_declaration v.declared ++ s) (declared_printed vs)

declared_length : (vs : List Started) → length (declared vs) ≡ length vs
declared_length vs = length-map vs (λ v. v.declared)

pub text_prints : Prints text (λ x. well_named x ≡ true) printed supported
unfolding text says bind written writable printed counted well_named supported
text_prints =
    prints
    (field_always (λ w e.
    field_always (λ metric e.
    field_always (λ w e.
    counted_always _ _ (count_prints 64) declarations_print (λ ds names.
    counted_always _ _ (free_number line_feed) groups_print (λ groups e.
    field_always (λ w e.
    bind_always _ (starts_print ds) (λ vs same.
    field_always (λ w e.
    counted_always _ _ (count_prints 64) (conditions_print (sizes_of ds) []) (λ goal e.
    field_always (λ w e.
    counted_always _ _ (count_prints 512) (operators_print (sizes_of ds)) (λ operators named.
    counted_always _ _ (test_number line_feed (λ n. eqb n 0) unsupported) rules_print (λ rules e.
    gives_always (record {
      fits = and_join (sym (declared_named vs) ∙ ap (all_of named_declaration) same ∙ names) named;
      text = rw (sym same) (simp (declared_printed, declared_length, append_assoc, append-nil) refl);
      passes = rw (sym same) (simp (declared_length, and-true) refl);
    }))))))))))))))
    (λ x g.
    let both = and_split (all_of (λ v. named_declaration v.declared) x.variables) (all_of (λ o. is_name o.name) x.operators) g in
    field_reaches tt refl
    (field_reaches x.metric refl
    (field_reaches tt refl
    (counted_reaches _ _ (count_prints 64) declarations_print (declared_in x) (declared_named x.variables ∙ both.0)
    (counted_reaches _ _ (free_number line_feed) groups_print x.groups refl
    (field_reaches tt refl
    (bind_reaches _ (prints_reaches (starts_print (declared_in x)) x.variables refl)
    (field_reaches tt refl
    (counted_reaches _ _ (count_prints 64) (conditions_print (sizes_of (declared_in x)) []) x.goal refl
    (field_reaches tt refl
    (counted_reaches _ _ (count_prints 512) (operators_print (sizes_of (declared_in x))) x.operators both.1
    (counted_reaches _ _ (test_number line_feed (λ n. eqb n 0) unsupported) rules_print x.rules refl
    (gives_reaches x)))))))))))))
