-- The traces of pairs, mutex groups and declarations are their printings.
use Prim.Native.Nat.{ℕ}
use mathlib.Core.Path.{◌≡◌, refl, ap}
use mathlib.Core.Bool.{true, ◌&&◌, and-true, and_assoc}
use mathlib.Core.List.{List, ◌++◌, append-nil, append_assoc}
use mathlib.Core.Option.{none}
use lib.Dec.{leb}
use Rattle.files.specs.Below.{all_of}
use Rattle.files.proofs.Logic.{and_split, and_join}
use Rattle.translator.specs.Fields.{name}
use Rattle.translator.specs.Format.{outside_limits, unless, field, gives, bind}
use Rattle.translator.specs.Sas.{Separator, blank, line_feed, ended, name_line, counted, printed_pair, printed_group, printed_declaration, is_name, named_declaration}
use Rattle.translator.specs.Stated.{supported_declaration}
use Rattle.translator.specs.Text.{any, says, each, name_lines, size, declaration, free_pair, group}
use Rattle.translator.proofs.Written.{written, writable}
use Rattle.translator.proofs.Traces.{Prints}
use Rattle.translator.proofs.PrintsLaws.{prints, gives_always, gives_reaches, field_always, field_reaches}
use Rattle.translator.proofs.ListPrints.{unless_fine, Number, number_prints, free_number, Lists, each_prints, each_free, counted_always, counted_reaches}

pub free_pair_prints : (separator : Separator) → Prints (free_pair separator) (λ p. true ≡ true) (λ p. ended blank p.variable ++ ended separator p.value) (λ p. true)
unfolding free_pair written writable
free_pair_prints separator =
    prints
    (field_always (λ v e. field_always (λ value e. gives_always (record { fits = refl; text = ap (λ (s : List ℕ). ended blank v ++ s) (append-nil (ended separator value)); passes = refl }))))
    (λ p g. field_reaches p.variable refl (field_reaches p.value refl (gives_reaches p)))

pub pairs_print : (n : ℕ) → Lists printed_pair (λ l. true) (λ l. true) n (each (free_pair line_feed) n)
unfolding printed_pair
pairs_print = each_free (free_pair line_feed) printed_pair (free_pair_prints line_feed)

pub group_prints : Prints group (λ g. true ≡ true) printed_group (λ g. true)
unfolding group says written writable printed_group counted bind
group_prints =
    prints
    (field_always (λ w e. counted_always _ _ (free_number line_feed) pairs_print (λ l g.
    field_always (λ w e. gives_always (record { fits = refl; text = simp (append_assoc, append-nil) refl; passes = refl })))))
    (λ l g. field_reaches tt refl (counted_reaches _ _ (free_number line_feed) pairs_print l refl (field_reaches tt refl (gives_reaches l))))

name_prints : Prints (field name any gives) (λ n. is_name n ≡ true) name_line (λ n. true)
unfolding written writable
name_prints =
    prints
    (field_always (λ n e. gives_always (record { fits = e; text = append-nil (name_line n); passes = refl })))
    (λ n g. field_reaches n g (gives_reaches n))

names_print : (n : ℕ) → Lists name_line (all_of is_name) (λ l. true) n (name_lines n)
unfolding name_lines
names_print = each_prints (field name any gives) is_name name_line (λ l. true) (all_of is_name) (λ l. true) name_prints refl (λ a l. refl) refl (λ a l. refl)

size_prints : Number line_feed (λ n. leb 1 n && leb n 32) size
unfolding size
size_prints =
    number_prints line_feed (λ n. unless (leb 1 n) outside_limits (unless (leb n 32) outside_limits none)) (λ n. leb 1 n && leb n 32) (λ n.
    simp (unless_fine, and-true) refl)

pub declaration_prints : Prints declaration (λ d. named_declaration d ≡ true) printed_declaration supported_declaration
unfolding declaration says written writable printed_declaration counted named_declaration supported_declaration
declaration_prints =
    prints
    (field_always (λ w e.
    field_always (λ name named.
    field_always (λ layer e.
    counted_always _ _ size_prints names_print (λ values all.
    field_always (λ w e.
    gives_always (record {
      fits = and_join named all;
      text = simp (append_assoc, append-nil) refl;
      passes = simp (unless_fine, and_assoc, and-true) refl;
    })))))))
    (λ d g.
    let both = and_split (is_name d.name) (all_of is_name d.values) g in
    field_reaches tt refl
    (field_reaches d.name both.0
    (field_reaches d.layer refl
    (counted_reaches _ _ size_prints names_print d.values both.1
    (field_reaches tt refl
    (gives_reaches d))))))
