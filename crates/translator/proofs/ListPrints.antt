-- Laws of traces for numbers, for counts and for lists of elements.
use Prim.Native.Nat.{ℕ, zero, suc}
use mathlib.Core.Path.{◌≡◌, refl, sym, ap, subst, ◌∙◌}
use mathlib.Core.Bool.{Bool, true, false, ◌&&◌, and-true}
use mathlib.Core.List.{List, [], ◌∷◌, ◌++◌, append-nil}
use mathlib.Core.Option.{Option, none}
use native.Mathlib.Omega.{arith}
use lib.Dec.{leb}
use lib.ListN.{length}
use Rattle.files.specs.Below.{all_of}
use Rattle.files.proofs.Logic.{and_split, and_join}
use Rattle.translator.specs.Fields.{number}
use Rattle.translator.specs.Format.{Fault, outside_limits, unless, Format, field, gives, bind, repeat}
use Rattle.translator.specs.Sas.{Separator, line_feed, ended, joined}
use Rattle.translator.specs.Text.{any, each, count}
use Rattle.translator.proofs.Written.{written, writable}
use Rattle.translator.proofs.Traces.{is_fine, Prints}
use Rattle.translator.proofs.PrintsLaws.{Always, Reaches, prints, prints_reaches, gives_always, gives_reaches, field_always, field_reaches, bind_always, bind_reaches}

-- a fault is none just where its test passes
pub unless_fine : (b : Bool) (fault : Fault) (others : Option Fault) → is_fine (unless b fault others) ≡ b && is_fine others
unless_fine true fault others = refl
unless_fine false fault others = refl

-- a number alone
abbrev pub Number : Separator → (ℕ → Bool) → Format ℕ → Type 0
Number separator ok f = Prints f (λ n. Unit {0}) (ended separator) ok

pub number_prints : (separator : Separator) (fault : ℕ → Option Fault) (ok : ℕ → Bool) → ((n : ℕ) → is_fine (fault n) ≡ ok n)
    → Number separator ok (field (number separator) fault gives)
unfolding written writable
number_prints separator fault ok fine =
    prints
    (field_always (λ n fits. gives_always (record { fits = tt; text = append-nil (ended separator n); passes = and-true (is_fine (fault n)) ∙ fine n })))
    (λ n g. field_reaches n refl (gives_reaches n))

pub free_number : (separator : Separator) → Number separator (λ n. true) (field (number separator) any gives)
free_number separator = number_prints separator any (λ n. true) (λ n. refl)

pub test_number : (separator : Separator) (test : ℕ → Bool) (fault : Fault) → Number separator test (field (number separator) (λ n. unless (test n) fault none) gives)
test_number separator test fault =
    number_prints separator (λ n. unless (test n) fault none) test (λ n. unless_fine (test n) fault none ∙ and-true (test n))

pub count_prints : (most : ℕ) → Number line_feed (λ n. leb n most) (count most)
unfolding count
count_prints most = test_number line_feed (λ n. leb n most) outside_limits

-- the traces of a format for a list are the printings of those of n elements that are good
abbrev pub Lists : {A : Type 0} → (A → List ℕ) → (List A → Bool) → (List A → Bool) → ℕ → Format (List A) → Type 0
Lists {A} print good ok n f = Prints f (λ (l : List A). (length l ≡ n) × (good l ≡ true)) (joined print) ok

-- elements by a state that those before leave: `goodAll` and `okAll` go over the list as `good` and `ok` say of each
module _ {S A : Type 0} (item : S → Format A) (onward : S → A → S) (good : A → Bool) (print : A → List ℕ) (ok : S → A → Bool)
    (good_all : List A → Bool) (ok_all : S → List A → Bool)
    (item_prints : (state : S) → Prints (item state) (λ a. good a ≡ true) print (ok state))
    (Good_none : good_all [] ≡ true)
    (Good_more : (a : A) (rest : List A) → good_all (a ∷ rest) ≡ good a && good_all rest)
    (ok_none : (state : S) → ok_all state [] ≡ true)
    (ok_more : (state : S) (a : A) (rest : List A) → ok_all state (a ∷ rest) ≡ ok state a && ok_all (onward state a) rest) where
  pub repeat_prints : (n : ℕ) (state : S) → Lists print good_all (ok_all state) n (repeat item onward state n)
  unfolding repeat joined
  repeat_prints zero state =
      prints
      (gives_always (record { fits = (refl, Good_none); text = refl; passes = sym (ok_none state) }))
      (λ l g. none_reaches l g.0)
    where
      none_reaches : (l : List A) → length l ≡ 0 → Reaches (gives []) l
      none_reaches [] e = gives_reaches []
      none_reaches (a ∷ rest) e = absurd (omega arith)
  repeat_prints (suc n) state =
      prints
      (bind_always _ (item_prints state) (λ a g.
      bind_always _ (repeat_prints n (onward state a)) (λ rest h.
      gives_always (record {
        fits = (ap suc h.0, Good_more a rest ∙ and_join g h.1);
        text = ap (λ (s : List ℕ). print a ++ s) (append-nil (joined print rest));
        passes = ap (λ (b : Bool). ok state a && b) (and-true (ok_all (onward state a) rest)) ∙ sym (ok_more state a rest);
      }))))
      (λ l g. some_reaches (repeat_prints n) l g.0 g.1)
    where
      some_reaches : ((s : S) → Lists print good_all (ok_all s) n (repeat item onward s n)) → (l : List A) → length l ≡ suc n → good_all l ≡ true
          → Reaches (bind (item state) (λ a. bind (repeat item onward (onward state a) n) (λ rest. gives (a ∷ rest)))) l
      some_reaches again [] e g = absurd (omega arith)
      some_reaches again (a ∷ rest) e g =
          let both = and_split (good a) (good_all rest) (sym (Good_more a rest) ∙ g) in
          bind_reaches _ (prints_reaches (item_prints state) a both.0)
          (bind_reaches _ (prints_reaches (again (onward state a)) rest (omega arith, both.1))
          (gives_reaches (a ∷ rest)))

-- elements of one format
pub each_prints : {A : Type 0} (item : Format A) (good : A → Bool) (print : A → List ℕ) (ok : A → Bool) (good_all ok_all : List A → Bool)
    → Prints item (λ a. good a ≡ true) print ok
    → good_all [] ≡ true → ((a : A) (rest : List A) → good_all (a ∷ rest) ≡ good a && good_all rest)
    → ok_all [] ≡ true → ((a : A) (rest : List A) → ok_all (a ∷ rest) ≡ ok a && ok_all rest)
    → (n : ℕ) → Lists print good_all ok_all n (each item n)
unfolding each
each_prints item good print ok good_all ok_all all Good_none Good_more ok_none ok_more n =
    repeat_prints (λ s. item) (λ s a. s) good print (λ s. ok) good_all (λ s. ok_all) (λ s. all) Good_none Good_more (λ s. ok_none) (λ s. ok_more) n tt

-- every one is to pass
pub each_all : {A : Type 0} (item : Format A) (good : A → Bool) (print : A → List ℕ) (ok : A → Bool)
    → Prints item (λ a. good a ≡ true) print ok → (n : ℕ) → Lists print (all_of good) (all_of ok) n (each item n)
each_all item good print ok all = each_prints item good print ok (all_of good) (all_of ok) all refl (λ a rest. refl) refl (λ a rest. refl)

-- nothing refuses any
pub each_free : {A : Type 0} (item : Format A) (print : A → List ℕ)
    → Prints item (λ a. true ≡ true) print (λ a. true) → (n : ℕ) → Lists print (λ l. true) (λ l. true) n (each item n)
each_free item print all = each_prints item (λ a. true) print (λ a. true) (λ l. true) (λ l. true) all refl (λ a rest. refl) refl (λ a rest. refl)

-- a count, then so many elements
module _ {A B : Type 0} {f : Format ℕ} {few : ℕ → Bool} {head : ℕ → List ℕ} {good ok : List A → Bool} {body : List A → List ℕ} (g : ℕ → Format (List A)) (k : List A → Format B)
    (count_is : Prints f (λ n. Unit {0}) head few)
    (list_is : (n : ℕ) → Prints (g n) (λ l. (length l ≡ n) × (good l ≡ true)) body ok) where
  pub counted_always : {P : B → List ℕ → Bool → Type 0}
      → ((l : List A) → good l ≡ true → Always (k l) (λ c s b. P c (head (length l) ++ (body l ++ s)) (few (length l) && (ok l && b))))
      → Always (bind f (λ n. bind (g n) k)) P
  counted_always {P} always =
      bind_always _ count_is (λ n u.
      bind_always k (list_is n) (λ l h.
      subst (λ (m : ℕ). Always (k l) (λ c s b. P c (head m ++ (body l ++ s)) (few m && (ok l && b)))) h.0 (always l h.1)))

  pub counted_reaches : {c : B} (l : List A) → good l ≡ true → Reaches (k l) c → Reaches (bind f (λ n. bind (g n) k)) c
  counted_reaches l h reaches =
      bind_reaches _ (prints_reaches count_is (length l) tt) (bind_reaches k (prints_reaches (list_is (length l)) l (refl, h)) reaches)
