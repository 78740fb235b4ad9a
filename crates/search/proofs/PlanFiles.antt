-- What the entry of the start state comes to, and the plan file begun and ended.
use Prim.Native.Nat.{ℕ, ◌+◌, ◌*◌, ◌≤◌, ◌<◌}
use mathlib.Core.Path.{◌≡◌, refl, sym, ap, ◌∙◌}
use mathlib.Core.Bool.{Bool, true, false, cond}
use mathlib.Core.List.{List, ◌++◌}
use native.Mathlib.Omega.{arith}
use lib.ListN.{length, get_or, length-map}
use borrow.Author.Tests.{le-leb, lt-leb}
use Rattle.files.specs.Outcome.{Outcome, done, refusal, refused, is_done, guard, fits, overwrite}
use Rattle.files.specs.Bytes.{placed, u16_bytes, u32_bytes}
use Rattle.files.specs.OriginFile.{origin_of}
use Rattle.files.specs.declared.refusals.Refusal.{Refusal}
use Rattle.std.specs.Prelude.{Result, Ok}
use Rattle.std.specs.Result.{IsErrAnd}
use Rattle.std.proofs.lemmas.Result.{err_from_is_err_and}
use Rattle.files.specs.PlanFile.{plan_file}
use Rattle.files.specs.Records.{number_bytes, record_bytes}
use Rattle.files.specs.Task.{Task}
use Rattle.files.proofs.Guards.{is_done_lem, refused_stands}
use Rattle.files.proofs.Lengths.{number_bytes_length, number_record_length, plan_file_length}
use Rattle.files.proofs.Logic.{split, split_le}
use Rattle.files.proofs.Placed.{placed_overwrite}
use Rattle.files.proofs.Writing.{placed_record, placed_signed}
use Rattle.reduction.specs.Preserved.{by_origin_file}
use Rattle.distances.specs.declared.Entry.{Entry}
use Rattle.search.specs.Found.{Found}
use Rattle.distances.specs.Table.{steps_of}
use Rattle.search.specs.FirstPlan.{found_plan}
use Rattle.distances.specs.Entries.{is_none}
use Rattle.search.specs.declared.stages.PlanFound.{PlanFound}
use Rattle.search.specs.Found.{not_found, found_of, entry_fits, plan_by, headed, signed_off, Begins}

-- the outcome by the entry of the start state
module _ (e : Entry) (room : ℕ) where
  pub entry_none : is_none e ≡ true → entry_fits e room ≡ refusal 24 0
  unfolding entry_fits
  entry_none far = rw far refl

  pub entry_short : is_none e ≡ false → room < 16 + 2 * steps_of e → entry_fits e room ≡ refusal 21 (16 + 2 * steps_of e)
  unfolding entry_fits fits guard
  entry_short near short = rw (near, lt-leb (16 + 2 * steps_of e) room short) refl

  pub entry_done : is_none e ≡ false → 16 + 2 * steps_of e ≤ room → entry_fits e room ≡ done
  unfolding entry_fits fits guard
  entry_done near long = rw (near, le-leb (16 + 2 * steps_of e) room long) refl

  -- where it is done there is room for the file
  pub entry_room : (entry_fits e room).number ≡ 0 → (entry_fits e room ≡ done) × (16 + 2 * steps_of e ≤ room)
  entry_room z =
      split (is_none e)
      (λ far. absurd (omega (arith, ap (λ (o : Outcome). o.number) (entry_none far))))
      (λ near.
      split_le (16 + 2 * steps_of e) room
      (λ h. (entry_done near h, h))
      (λ h. absurd (omega (arith, ap (λ (o : Outcome). o.number) (entry_short near h)))))

-- what the entry of the start state comes to, where the table is filled
module _ (states : ℕ) (e : Entry) (room : ℕ) where
  abbrev size : ℕ
  size = 16 + 2 * steps_of e

  abbrev pub whole : Found
  whole = record { outcome = done; states = states; plan = size; cost = e.minutes; steps = e.steps }

  pub plan_none : is_none e ≡ true → plan_by states e room ≡ not_found states (refusal 24 0)
  unfolding plan_by entry_fits is_done
  plan_none far = rw far refl

  pub plan_room : is_none e ≡ false → room < size → plan_by states e room ≡ not_found states (refusal 21 size)
  unfolding plan_by entry_fits is_done fits guard
  plan_room near short = rw (near, lt-leb size room short) refl

  pub plan_whole_lem : is_none e ≡ false → size ≤ room → plan_by states e room ≡ whole
  unfolding plan_by entry_fits is_done fits guard
  plan_whole_lem near long = rw (near, le-leb size room long) refl

-- the plan file of a refusal is not begun
module _ (f : Found) (no : is_done f.outcome ≡ false) where
  pub not_headed : (plan : List ℕ) → headed f plan ≡ plan
  unfolding headed
  not_headed plan = rw no refl

origin_length : (origin plan : List ℕ) → length (by_origin_file origin plan) ≡ length plan
unfolding by_origin_file
origin_length origin plan = length-map plan (λ n. get_or (origin_of origin).actions n 0)

-- head, steps and sign-off together
pub file_written : (t : Task) (origin plan head buffer all : List ℕ) (count signer : ℕ) (f : Found) → is_done f.outcome ≡ true → f.steps.0 ≡ count → length (found_plan t) ≡ count → 16 + 2 * count ≤ length plan
    → head ≡ headed f plan → buffer ≡ placed head 4 (number_bytes (by_origin_file origin (found_plan t))) → all ≡ signed_off signer count buffer
    → all ≡ overwrite plan (plan_file (by_origin_file origin (found_plan t)) signer)
unfolding plan_file headed signed_off
file_written t origin plan head buffer all count signer f there n l r h p a =
    let ns = by_origin_file origin (found_plan t) in
    let size = origin_length origin (found_plan t) in
    let begun : head ≡ placed plan 0 (u16_bytes (2 * count) ++ u16_bytes 8) = h ∙ rw (there, n) refl in
    let ended : all ≡ placed buffer (4 + 2 * count) (record_bytes 5 (u32_bytes signer ++ u32_bytes (4 + 2 * count))) = a in
    placed_signed plan buffer all (4 + 2 * count) signer (record_bytes 8 (number_bytes ns))
    (placed_record plan head buffer 0 8 (2 * count) (number_bytes ns) begun (omega (arith, number_bytes_length ns, size, l)) p)
    (omega (arith, number_record_length 8 ns, size, l))
    ended
    ∙ placed_overwrite plan (plan_file ns signer) (omega (arith, plan_file_length ns signer, size, l))

-- a refusal handed on
pub found_up : (states : ℕ) (x : Result PlanFound Refusal) (r : Refusal) → IsErrAnd x (λ y. y ≡ r) → found_of states x ≡ not_found states (refused r)
found_up states x r h = let p = err_from_is_err_and x h in rw (p.1, p.2) refl

-- the file begun, by the entry of the start state
module _ (states : ℕ) (e : Entry) (plan : List ℕ) (o : Outcome) (is : o ≡ entry_fits e (length plan)) where
  by_entry : (b : Bool) → is_done o ≡ b → plan_by states e (length plan) ≡ cond b (whole states e (length plan)) (not_found states o)
  unfolding plan_by
  by_entry b q = rw (← is, q) refl

  pub begins_refused : (r : Refusal) → refused r ≡ o → (x : Result PlanFound Refusal) → IsErrAnd x (λ y. y ≡ r) → Begins states e plan x plan
  begins_refused r q x h =
      let n : is_done o ≡ false = ap is_done (sym q) ∙ refused_stands r in
      let is = found_up states x r h in
      record {
        found = is ∙ ap (not_found states) q ∙ sym (by_entry false n);
        begun = sym (not_headed (found_of states x) (ap (λ (f : Found). is_done f.outcome) is ∙ refused_stands r) plan);
      }

  done_here : o.number ≡ 0 → (entry_fits e (length plan) ≡ done) × (16 + 2 * steps_of e ≤ length plan)
  done_here k = entry_room e (length plan) (ap (λ (x : Outcome). x.number) (sym is) ∙ k)

  pub begins_room : o.number ≡ 0 → 16 + 2 * steps_of e ≤ length plan
  begins_room k = (done_here k).1

  pub begins_whole : o.number ≡ 0 → (needed : ℕ) → needed ≡ 16 + 2 * steps_of e → (now : List ℕ) → now ≡ placed plan 0 (u16_bytes (2 * steps_of e) ++ u16_bytes 8)
      → Begins states e plan (Ok (record { states = states; plan = needed; cost = e.minutes; steps = e.steps })) now
  unfolding headed is_done
  begins_whole k needed n now w =
      let answer : found_of states (Ok (record { states = states; plan = needed; cost = e.minutes; steps = e.steps })) ≡ whole states e (length plan) =
      λ i. record { outcome = done; states = states; plan = n i; cost = e.minutes; steps = e.steps } in
      record { found = answer ∙ sym (by_entry true (is_done_lem o k)); begun = w }
