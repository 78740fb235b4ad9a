-- The traces of the start values are the printings of variables with the given declarations.
use mathlib.Core.Path.{◌≡◌, refl, ap₂, subst}
use mathlib.Core.Bool.{and-true}
use mathlib.Core.List.{List, [], ◌∷◌, append-nil, map}
use Rattle.files.specs.Below.{all_of}
use Rattle.translator.specs.Sas.{Declaration, Started, joined, printed_start}
use Rattle.translator.specs.Stated.{supported_start}
use Rattle.translator.specs.Text.{start, starts}
use Rattle.translator.proofs.Written.{written, writable}
use Rattle.translator.proofs.Traces.{Prints}
use Rattle.translator.proofs.PrintsLaws.{Reaches, prints, prints_reaches, gives_always, gives_reaches, field_always, field_reaches, bind_always, bind_reaches}
use Rattle.translator.proofs.ListPrints.{unless_fine}

start_prints : (d : Declaration) → Prints (start d) (λ v. v.declared ≡ d) printed_start supported_start
unfolding start written writable printed_start supported_start
start_prints d =
    prints
    (field_always (λ n e.
    gives_always (record {
      fits = refl;
      text = simp append-nil refl;
      passes = simp (unless_fine, and-true) refl;
    })))
    (λ v e. subst (λ (c : Declaration). Reaches (start c) v) e (field_reaches v.start refl (gives_reaches v)))

starts_reach : (vs : List Started) → Reaches (starts (map (λ v. v.declared) vs)) vs
unfolding starts
starts_reach [] = gives_reaches []
starts_reach (v ∷ vs) = bind_reaches _ (prints_reaches (start_prints v.declared) v refl) (bind_reaches _ (starts_reach vs) (gives_reaches (v ∷ vs)))

pub starts_print : (ds : List Declaration) → Prints (starts ds) (λ vs. map (λ v. v.declared) vs ≡ ds) (joined printed_start) (all_of supported_start)
unfolding starts joined
starts_print [] = prints (gives_always (record { fits = refl; text = refl; passes = refl })) (λ vs e. subst (λ (ds : List Declaration). Reaches (starts ds) vs) e (starts_reach vs))
starts_print (d ∷ ds) =
    prints
    (bind_always _ (start_prints d) (λ v e.
    bind_always _ (starts_print ds) (λ vs es.
    gives_always (record {
      fits = ap₂ (λ (d : Declaration) (ds : List Declaration). d ∷ ds) e es;
      text = simp append-nil refl;
      passes = simp and-true refl;
    }))))
    (λ vs e. subst (λ (ds : List Declaration). Reaches (starts ds) vs) e (starts_reach vs))
