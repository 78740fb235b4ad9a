-- Laws of a byte that is due and of words: what is read, and where a text that is no word stops.
use Prim.Native.Nat.{ℕ, suc, ◌+◌, ◌≤◌}
use mathlib.Core.Path.{◌≡◌, refl, sym, ap, ◌∙◌}
use mathlib.Core.Bool.{Bool, true, false}
use mathlib.Core.List.{List, [], ◌∷◌, ◌++◌, nil≢cons, head-eq_of_cons-eq, tail-eq_of_cons-eq}
use mathlib.Core.Logic.{◌⊎◌, inl, inr, ⊎_elim}
use native.Mathlib.Omega.{arith}
use native.Mathlib.Nat.{add-zero}
use lib.Dec.{eqb}
use lib.ListN.{length, drop}
use borrow.Author.Tests.{eq-eqb, eqb-true}
use Rattle.files.specs.Outcome.{Outcome, done, refusal, guard}
use Rattle.files.proofs.Guards.{guard_passes, guard_refuses}
use Rattle.files.proofs.Logic.{split}
use Rattle.translator.specs.Fields.{byte_at, word_at}
use Rattle.translator.proofs.FrontLaws.{Agree}

-- a refusal is not done
pub refused : {p : ℕ} → done ≡ refusal 31 p → ⊥
refused e = let z : ◌≡◌ {A = ℕ} 0 31 = ap (λ (o : Outcome). o.number) e in omega (arith, z)

pub guard_goes : (t : Bool) (p : ℕ) (rest : Outcome) → t ≡ true → guard t 31 p rest ≡ rest
guard_goes t p rest e = sym (guard_passes t 31 p rest rest e refl)

pub guard_stops : (t : Bool) (p : ℕ) (rest : Outcome) → t ≡ false → guard t 31 p rest ≡ refusal 31 p
guard_stops t p rest e = sym (guard_refuses t 31 p rest (refusal 31 p) e refl)

pub guard_done : (t : Bool) (p : ℕ) (rest : Outcome) → guard t 31 p rest ≡ done → (t ≡ true) × (rest ≡ done)
unfolding guard
guard_done true p rest e = (refl, e)
guard_done false p rest e = absurd (refused (sym e))

pub byte_read : (byte : ℕ) (rest : List ℕ) (at : ℕ) → byte_at byte (byte ∷ rest) at ≡ done
unfolding byte_at
byte_read byte rest at = guard_goes _ _ _ (eq-eqb byte byte refl)

pub byte_back : (byte : ℕ) (r : List ℕ) (at : ℕ) → byte_at byte r at ≡ done → r ≡ byte ∷ drop 1 r
unfolding byte_at
byte_back byte [] at e = absurd (refused (sym e))
byte_back byte (b ∷ r) at e = ap (λ (x : ℕ). x ∷ r) (eqb-true b byte (guard_done (eqb b byte) at done e).0)

pub byte_form : (byte : ℕ) (r : List ℕ) (at : ℕ) → (byte_at byte r at ≡ done) ⊎ (byte_at byte r at ≡ refusal 31 at)
unfolding byte_at
byte_form byte [] at = inr refl
byte_form byte (b ∷ r) at = split (eqb b byte) (λ e. inl (guard_goes _ _ _ e)) (λ e. inr (guard_stops _ _ _ e))

pub byte_agree : (byte : ℕ) (r s : List ℕ) (at : ℕ) → Agree 1 s r → byte_at byte s at ≡ byte_at byte r at
unfolding byte_at
byte_agree byte [] [] at e = refl
byte_agree byte [] (y ∷ s) at e = absurd (nil≢cons (sym e))
byte_agree byte (x ∷ r) [] at e = absurd (nil≢cons e)
byte_agree byte (x ∷ r) (y ∷ s) at e = ap (λ (b : ℕ). guard (eqb b byte) 31 at done) (head-eq_of_cons-eq e)

pub word_read : (w rest : List ℕ) (at : ℕ) → word_at w (w ++ rest) at ≡ done
unfolding word_at
word_read [] rest at = refl
word_read (c ∷ w) rest at = guard_goes _ _ _ (eq-eqb c c refl) ∙ word_read w rest (at + 1)

pub word_back : (w r : List ℕ) (at : ℕ) → word_at w r at ≡ done → r ≡ w ++ drop (length w) r
unfolding word_at
word_back [] r at e = refl
word_back (c ∷ w) [] at e = absurd (refused (sym e))
word_back (c ∷ w) (b ∷ r) at e =
    let both = guard_done (eqb b c) at (word_at w r (at + 1)) e in
    let first = eqb-true b c both.0 in
    let rest = word_back w r (at + 1) both.1 in
    λ i. first i ∷ rest i

-- a text goes on with a word for k bytes, and so does every text that agrees with it on one byte more
pub record WordStops (w r : List ℕ) (at : ℕ) : Type 0 where
  pub count : ℕ
  pub place : word_at w r at ≡ refusal 31 (at + count)
  pub within : count ≤ length r
  pub long : count ≤ length w
  pub begun : Agree count w r
  pub agree : (s : List ℕ) → Agree (suc count) s r → word_at w s at ≡ word_at w r at

pub word_form : (w r : List ℕ) (at : ℕ) → (word_at w r at ≡ done) ⊎ WordStops w r at
unfolding word_at
word_form [] r at = inl refl
word_form (c ∷ w) [] at =
    inr (record {
      count = 0;
      place = ap (refusal 31) (sym (add-zero at));
      within = omega arith;
      long = omega arith;
      begun = refl;
      agree = agree;
    })
  where
    agree : (s : List ℕ) → Agree 1 s [] → word_at (c ∷ w) s at ≡ refusal 31 at
    agree [] e = refl
    agree (y ∷ s) e = absurd (nil≢cons (sym e))
word_form (c ∷ w) (b ∷ r) at =
    split (eqb b c)
    (λ e. ⊎_elim (λ d. inl (guard_goes _ _ _ e ∙ d)) (λ stops. inr (further e stops)) (word_form w r (at + 1)))
    (λ e.
    inr (record {
      count = 0;
      place = guard_stops _ _ _ e ∙ ap (refusal 31) (sym (add-zero at));
      within = omega arith;
      long = omega arith;
      begun = refl;
      agree = here e;
    }))
  where
    here : eqb b c ≡ false → (s : List ℕ) → Agree 1 s (b ∷ r) → word_at (c ∷ w) s at ≡ word_at (c ∷ w) (b ∷ r) at
    here f [] e = absurd (nil≢cons e)
    here f (y ∷ s) e = guard_stops _ _ _ (ap (λ (x : ℕ). eqb x c) (head-eq_of_cons-eq e) ∙ f) ∙ sym (guard_stops _ _ _ f)

    beyond : (k : ℕ) → ((s : List ℕ) → Agree (suc k) s r → word_at w s (at + 1) ≡ word_at w r (at + 1))
        → (s : List ℕ) → Agree (suc (suc k)) s (b ∷ r) → word_at (c ∷ w) s at ≡ word_at (c ∷ w) (b ∷ r) at
    beyond k rest [] e = absurd (nil≢cons e)
    beyond k rest (y ∷ s) e =
        let first : y ≡ b = head-eq_of_cons-eq e in
        let same = rest s (tail-eq_of_cons-eq e) in
        λ i. guard (eqb (first i) c) 31 at (same i)

    further : eqb b c ≡ true → WordStops w r (at + 1) → WordStops (c ∷ w) (b ∷ r) at
    further e stops =
        let first : c ≡ b = sym (eqb-true b c e) in
        record {
          count = suc stops.count;
          place = guard_goes _ _ _ e ∙ stops.place ∙ ap (refusal 31) (omega arith);
          within = omega (arith, stops.within);
          long = omega (arith, stops.long);
          begun = λ i. first i ∷ stops.begun i;
          agree = beyond stops.count stops.agree;
        }
