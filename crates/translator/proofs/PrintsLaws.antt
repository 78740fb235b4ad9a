-- Laws of traces for every format: what holds of all traces of a format, and which values a format can give, part by part.
use Prim.Native.Nat.{ℕ}
use mathlib.Core.Path.{◌≡◌, refl, sym, subst, subst₂}
use mathlib.Core.Bool.{Bool, true, ◌&&◌, and_assoc}
use mathlib.Core.List.{List, [], ◌++◌, append_assoc}
use mathlib.Core.Option.{Option}
use Rattle.translator.specs.Fields.{Field, Value}
use Rattle.translator.specs.Format.{Fault, Format, gives, field, bind}
use Rattle.translator.proofs.Written.{written, writable}
use Rattle.translator.proofs.Traces.{is_fine, Trace, text_of, value_of, passed, Prints}

-- P holds of what each trace gives, of its text, and of whether nothing refuses it
pub record Always {A : Type 0} (f : Format A) (P : A → List ℕ → Bool → Type 0) : Type 0 where
  pub holds : (t : Trace f) → P (value_of f t) (text_of f t) (passed f t)

-- some trace gives the value
pub record Reaches {A : Type 0} (f : Format A) (a : A) : Type 0 where
  pub trace : Trace f
  pub value : value_of f trace ≡ a

-- a value that can be printed, its printing, and whether nothing refuses it
pub record Printed {A : Type 0} (good : A → Type 0) (print : A → List ℕ) (ok : A → Bool) (a : A) (s : List ℕ) (b : Bool) : Type 0 where
  pub fits : good a
  pub text : s ≡ print a
  pub passes : b ≡ ok a

pub prints : {A : Type 0} {f : Format A} {good : A → Type 0} {print : A → List ℕ} {ok : A → Bool}
    → Always f (Printed good print ok) → ((a : A) → good a → Reaches f a) → Prints f good print ok
prints always reaches =
    record {
      text = λ t. (always.holds t).text;
      fits = λ t. (always.holds t).fits;
      passes = λ t. (always.holds t).passes;
      trace = λ a g. (reaches a g).trace;
      value = λ a g. (reaches a g).value;
    }

pub prints_reaches : {A : Type 0} {f : Format A} {good : A → Type 0} {print : A → List ℕ} {ok : A → Bool}
    → Prints f good print ok → (a : A) → good a → Reaches f a
prints_reaches all a g = record { trace = all.trace a g; value = all.value a g }

-- nothing more
pub gives_always : {A : Type 0} {a : A} {P : A → List ℕ → Bool → Type 0} → P a [] true → Always (gives a) P
gives_always p = record { holds = λ t. p }

pub gives_reaches : {A : Type 0} (a : A) → Reaches (gives a) a
gives_reaches a = record { trace = tt; value = refl }

-- a field
pub field_always : {A : Type 0} {f : Field} {fault : Value f → Option Fault} {next : Value f → Format A} {P : A → List ℕ → Bool → Type 0}
    → ((v : Value f) → writable f v ≡ true → Always (next v) (λ a s b. P a (written f v ++ s) (is_fine (fault v) && b)))
    → Always (field f fault next) P
field_always always = record { holds = λ t. (always t.value t.fits).holds t.rest }

pub field_reaches : {A : Type 0} {f : Field} {fault : Value f → Option Fault} {next : Value f → Format A} {a : A}
    (v : Value f) → writable f v ≡ true → Reaches (next v) a → Reaches (field f fault next) a
field_reaches v fits reaches = record { trace = record { value = v; fits = fits; rest = reaches.trace }; value = reaches.value }

-- one format behind another
bind_holds : {A B : Type 0} (f : Format A) (k : A → Format B) (P : B → List ℕ → Bool → Type 0)
    → ((t : Trace f) → Always (k (value_of f t)) (λ c s b. P c (text_of f t ++ s) (passed f t && b)))
    → Always (bind f k) P
unfolding bind
bind_holds (gives a) k P always = always tt
bind_holds (field f fault next) k P always =
    field_always (λ v fits.
    bind_holds (next v) k (λ c s b. P c (written f v ++ s) (is_fine (fault v) && b)) (λ t.
    record {
      holds = λ u.
          subst₂ (P (value_of (k (value_of (next v) t)) u))
          (append_assoc (written f v) (text_of (next v) t) (text_of (k (value_of (next v) t)) u))
          (and_assoc (is_fine (fault v)) (passed (next v) t) (passed (k (value_of (next v) t)) u))
          ((always (record { value = v; fits = fits; rest = t })).holds u);
    }))

pub bind_always : {A B : Type 0} {f : Format A} (k : A → Format B) {good : A → Type 0} {print : A → List ℕ} {ok : A → Bool} {P : B → List ℕ → Bool → Type 0}
    → Prints f good print ok
    → ((a : A) → good a → Always (k a) (λ c s b. P c (print a ++ s) (ok a && b)))
    → Always (bind f k) P
bind_always {f} k {P} all always =
    bind_holds f k P (λ t.
    record {
      holds = λ u.
          subst₂ (λ s b. P (value_of (k (value_of f t)) u) (s ++ text_of (k (value_of f t)) u) (b && passed (k (value_of f t)) u))
          (sym (all.text t))
          (sym (all.passes t))
          ((always (value_of f t) (all.fits t)).holds u);
    })

bind_joins : {A B : Type 0} (f : Format A) (k : A → Format B) {c : B} (t : Trace f) → Reaches (k (value_of f t)) c → Reaches (bind f k) c
unfolding bind
bind_joins (gives a) k t reaches = reaches
bind_joins (field f fault next) k t reaches = field_reaches t.value t.fits (bind_joins (next t.value) k t.rest reaches)

pub bind_reaches : {A B : Type 0} {f : Format A} (k : A → Format B) {a : A} {c : B} → Reaches f a → Reaches (k a) c → Reaches (bind f k) c
bind_reaches {f} k {c} first second = bind_joins f k first.trace (subst (λ a. Reaches (k a) c) (sym first.value) second)
