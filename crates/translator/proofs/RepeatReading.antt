-- Lists of elements that are read one behind another: each by a state, all by one format, and while a count goes down.
use Prim.Native.Nat.{ℕ, zero, suc, ◌+◌, ◌-◌, ◌≤◌, ◌<◌}
use mathlib.Core.Path.{◌≡◌, refl, sym, ap, ◌∙◌}
use mathlib.Core.Bool.{false}
use mathlib.Core.List.{List, [], ◌∷◌}
use native.Mathlib.Omega.{arith}
use lib.ListN.{length}
use Rattle.translator.specs.Cursors.{Cursor}
use Rattle.translator.specs.Format.{Format, gives, bind, repeat, is_open, cursor_after, value_after}
use Rattle.translator.specs.Text.{each}
use Rattle.translator.proofs.ReadingLaws.{after_refused, after_bind, value_bind}

-- an element, then the others
abbrev pub first : {A : Type 0} → Format A → (A → Format (List A)) → Format (List A)
first f rest = bind f (λ a. bind (rest a) (λ others. gives (a ∷ others)))

module _ {A : Type 0} (f : Format A) (rest : A → Format (List A)) (s : List ℕ) (c : Cursor) where
  pub first_after : cursor_after (first f rest) s c ≡ cursor_after (rest (value_after f s c)) s (cursor_after f s c)
  unfolding cursor_after
  first_after = after_bind f _ s c ∙ after_bind (rest (value_after f s c)) _ s (cursor_after f s c)

  pub first_value : value_after (first f rest) s c ≡ value_after f s c ∷ value_after (rest (value_after f s c)) s (cursor_after f s c)
  unfolding value_after
  first_value = value_bind f _ s c ∙ value_bind (rest (value_after f s c)) _ s (cursor_after f s c)

-- elements by a state
module _ {S A : Type 0} (item : S → Format A) (onward : S → A → S) (s : List ℕ) (state : S) where
  pub repeat_more : (n : ℕ) (c : Cursor) → cursor_after (repeat item onward state (suc n)) s c ≡ cursor_after (repeat item onward (onward state (value_after (item state) s c)) n) s (cursor_after (item state) s c)
  unfolding repeat
  repeat_more n c = first_after (item state) (λ a. repeat item onward (onward state a) n) s c

  pub repeat_value : (n : ℕ) (c : Cursor)
      → value_after (repeat item onward state (suc n)) s c ≡ value_after (item state) s c ∷ value_after (repeat item onward (onward state (value_after (item state) s c)) n) s (cursor_after (item state) s c)
  unfolding repeat
  repeat_value n c = first_value (item state) (λ a. repeat item onward (onward state a) n) s c

-- as many as are left, behind one more
module _ {S A : Type 0} (item : S → Format A) (onward : S → A → S) (s : List ℕ) (state : S) (left : ℕ) (here next : Cursor) (some : 0 < left) (moved : next ≡ cursor_after (item state) s here) where
  more : left ≡ suc (left - 1)
  more = omega arith

  pub repeat_next : cursor_after (repeat item onward (onward state (value_after (item state) s here)) (left - 1)) s next ≡ cursor_after (repeat item onward state left) s here
  repeat_next =
      ap (cursor_after (repeat item onward (onward state (value_after (item state) s here)) (left - 1)) s) moved
      ∙ sym (repeat_more item onward s state (left - 1) here)
      ∙ sym (ap (λ (n : ℕ). cursor_after (repeat item onward state n) s here) more)

  pub repeat_others : value_after (repeat item onward state left) s here ≡ value_after (item state) s here ∷ value_after (repeat item onward (onward state (value_after (item state) s here)) (left - 1)) s next
  repeat_others =
      ap (λ (n : ℕ). value_after (repeat item onward state n) s here) more
      ∙ repeat_value item onward s state (left - 1) here
      ∙ sym (ap (λ (c : Cursor). value_after (item state) s here ∷ value_after (repeat item onward (onward state (value_after (item state) s here)) (left - 1)) s c) moved)

-- elements of one format
module _ {A : Type 0} (f : Format A) where
  pub each_empty : (n : ℕ) → n ≡ 0 → each f n ≡ gives []
  unfolding each repeat
  each_empty n e = ap (each f) e

  pub each_first : (n k : ℕ) → n ≡ suc k → each f n ≡ first f (λ a. each f k)
  unfolding each repeat
  each_first n k e = ap (each f) e

  module _ (s : List ℕ) where
    pub each_more : (n : ℕ) (c : Cursor) → cursor_after (each f (suc n)) s c ≡ cursor_after (each f n) s (cursor_after f s c)
    unfolding each
    each_more n c = repeat_more (λ state. f) (λ state a. state) s tt n c

    pub each_value : (n : ℕ) (c : Cursor) → value_after (each f (suc n)) s c ≡ value_after f s c ∷ value_after (each f n) s (cursor_after f s c)
    unfolding each
    each_value n c = repeat_value (λ state. f) (λ state a. state) s tt n c

    pub each_length : (n : ℕ) (c : Cursor) → length (value_after (each f n) s c) ≡ n
    unfolding each repeat value_after
    each_length zero c = refl
    each_length (suc n) c = ap length (each_value n c) ∙ ap suc (each_length n (cursor_after f s c))

-- a loop that counts down
module _ {A : Type 0} (f : Format A) (s : List ℕ) (left : ℕ) (here whole : Cursor) (is : cursor_after (each f left) s here ≡ whole) where
  pub each_end : left ≤ 0 → here ≡ whole
  unfolding cursor_after
  each_end h = sym (ap (λ (x : Format (List A)). cursor_after x s here) (each_empty f left (omega arith))) ∙ is

  pub each_next : (next : Cursor) → 0 < left → next ≡ cursor_after f s here → cursor_after (each f (left - 1)) s next ≡ whole
  unfolding each
  each_next next h e = repeat_next (λ state. f) (λ state a. state) s tt left here next h e ∙ is

-- a loop that counts up
module _ {A : Type 0} (f : Format A) (s : List ℕ) (count i : ℕ) (here whole : Cursor) (is : cursor_after (each f (count - i)) s here ≡ whole) where
  pub each_all : count ≤ i → here ≡ whole
  each_all h = each_end f s (count - i) here whole is (omega arith)

  pub each_on : (next : Cursor) → i < count → next ≡ cursor_after f s here → cursor_after (each f (count - (i + 1))) s next ≡ whole
  each_on next h e =
      let further : count - (i + 1) ≡ count - i - 1 = omega arith in
      ap (λ (n : ℕ). cursor_after (each f n) s next) further ∙ each_next f s (count - i) here whole is next (omega arith) e

  pub each_up : (next : Cursor) → i < count → next ≡ cursor_after f s here → is_open next ≡ false → next ≡ whole
  each_up next h e d = sym (after_refused (each f (count - (i + 1))) s next d) ∙ each_on next h e

pub each_from : {A : Type 0} (f : Format A) (s : List ℕ) (count : ℕ) (c : Cursor) → cursor_after (each f (count - 0)) s c ≡ cursor_after (each f count) s c
each_from f s count c = let all : count - 0 ≡ count = omega arith in ap (λ (n : ℕ). cursor_after (each f n) s c) all
