-- The line feed is the first byte that is one.
use Prim.Native.Nat.{ℕ, ◌+◌, ◌-◌}
use mathlib.Core.Path.{◌≡◌, refl, sym, ap, ◌∙◌}
use mathlib.Core.List.{List}
use native.Mathlib.Omega.{arith}
use lib.Dec.{eqb, ltb}
use lib.ListN.{length, take, drop, length-drop}
use lib.Seq.{take-length}
use borrow.Author.Tests.{ltb-false}
use Rattle.std.specs.List.{position, position_or_len}
use Rattle.std.specs.Option.{unwrap_or}
use Rattle.std.proofs.lemmas.List.Recursion.{is_position_or_len}
use Rattle.files.proofs.Logic.{split}
use Rattle.translator.specs.Fields.{line_length}
use Rattle.translator.proofs.LineLaws.{line_within}
use Rattle.translator.proofs.fields.Text.line_end.Goals as goal

line_is : (r : List ℕ) → line_length r ≡ position_or_len (λ (b : ℕ). eqb b 10) r
unfolding line_length
line_is r = is_position_or_len line_length (λ (b : ℕ). eqb b 10) refl (λ x xs. let e : line_length xs + 1 ≡ 1 + line_length xs = omega arith in rw e refl) r

line_found : (r : List ℕ) → unwrap_or (position (λ (b : ℕ). eqb b 10) r) (length r) ≡ line_length r
line_found r =
    split (ltb (position_or_len (λ (b : ℕ). eqb b 10) r) (length r))
    (λ t. rw t (sym (line_is r)))
    (λ f. rw f (omega (arith, line_is r, line_within r, ltb-false _ _ f)))

pub returns : goal.returns
returns c =
    let self = c.args.self.now in
    let s : List ℕ = self.bytes.now in
    let rest : List ℕ = take (length s - self.at) (drop self.at s) in
    let whole : rest ≡ drop self.at s = ap (λ (n : ℕ). take n (drop self.at s)) (sym (length-drop self.at s)) ∙ take-length (drop self.at s) in
    ap (λ (n : ℕ). self.at + n) (c.unwrap_or.ensures ∙ ap (λ o. unwrap_or o (length rest)) c.line_feed.ensures ∙ line_found rest ∙ ap line_length whole)
