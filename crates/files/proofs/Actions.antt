-- Actions that stand in a row: what is read there, what was written there, and that they are the task's.
use Prim.Native.Nat.{ℕ, zero, suc, ◌+◌, ◌*◌, ◌≤◌}
use mathlib.Core.Path.{◌≡◌, refl, ap}
use mathlib.Core.Bool.{true}
use mathlib.Core.List.{List, [], ◌∷◌, ◌++◌}
use native.Mathlib.Omega.{arith}
use native.Mathlib.Nat.{add-zero}
use lib.ListN.{length, length-append}
use Rattle.files.specs.Below.{all_of}
use Rattle.files.specs.Bytes.{Octets, u16_bytes, u32_bytes}
use Rattle.files.specs.Records.{record_end, records_end, body_rule, body_fits, head_at, sign_off_at, record_bytes}
use Rattle.files.specs.Task.{Action, Task, action}
use Rattle.files.specs.TaskFile.{conditions_in, effects_in, action_length, effects_place, action_form_at, action_at, actions_at, pairs_from, action_from, actions_from, pair_bytes, action_body, action_bytes}
use Rattle.files.specs.Accepted.{valid_action}
use Rattle.files.proofs.Done.{facts}
use Rattle.files.proofs.Lengths.{record_bytes_length, pair_bytes_length, action_body_length}
use Rattle.files.proofs.Stands.{Stands, stands_none, stands_left, stands_right, stands_join, stands_u16, stands_u32, u16_stands, u32_stands}
use Rattle.files.proofs.RecordStands.{Recorded, recorded, record_stands}
use Rattle.files.proofs.Valid.{Valid, action_valid}
use Rattle.files.proofs.Variables.{States}
use Rattle.files.proofs.Pairs.{pairs_length, pairs_stand, pairs_read, pairs_checked, pairs_pass}

pub actions_length : (s : List ℕ) (at count : ℕ) → length (actions_from s at count) ≡ count
unfolding actions_from
actions_length s at zero = refl
actions_length s at (suc count) = ap suc (actions_length s (record_end s at) count)

-- the parts of the record at `at`: the cost, the two counts, the conditions and the effects
record Parts (f : List ℕ) (at : ℕ) (a : Action) : Type 0 where
  cost : Stands f (at + 4) (u32_bytes a.cost)
  condition_count : Stands f (at + 8) (u16_bytes (length a.conditions))
  effect_count : Stands f (at + 10) (u16_bytes (length a.effects))
  conditions : Stands f (at + 12) (pair_bytes a.conditions)
  effects : Stands f (at + 12 + 4 * length a.conditions) (pair_bytes a.effects)

module _ (a : Action) where
  abbrev cost_bytes : List ℕ
  cost_bytes = u32_bytes a.cost

  abbrev condition_count_bytes : List ℕ
  condition_count_bytes = u16_bytes (length a.conditions)

  abbrev effect_count_bytes : List ℕ
  effect_count_bytes = u16_bytes (length a.effects)

  abbrev counts : List ℕ
  counts = cost_bytes ++ condition_count_bytes ++ effect_count_bytes

  abbrev front : List ℕ
  front = counts ++ pair_bytes a.conditions

  front_length : length front ≡ 8 + 4 * length a.conditions
  unfolding u32_bytes u16_bytes
  front_length = omega (arith, length-append counts (pair_bytes a.conditions), pair_bytes_length a.conditions)

  parts : {f : List ℕ} {at : ℕ} → Stands f (at + 4) (action_body a) → Parts f at a
  unfolding action_body u32_bytes u16_bytes
  parts s =
      let in_front = stands_left front (pair_bytes a.effects) s in
      let in_counts = stands_left counts (pair_bytes a.conditions) in_front in
      let in_first = stands_left (cost_bytes ++ condition_count_bytes) effect_count_bytes in_counts in
      record {
        cost = stands_left cost_bytes condition_count_bytes in_first;
        condition_count = stands_right cost_bytes condition_count_bytes (omega arith) in_first;
        effect_count = stands_right (cost_bytes ++ condition_count_bytes) effect_count_bytes (omega arith) in_counts;
        conditions = stands_right counts (pair_bytes a.conditions) (omega arith) in_front;
        effects = stands_right front (pair_bytes a.effects) (omega (arith, front_length)) s;
      }

  parts_stand : {f : List ℕ} {at : ℕ} → Parts f at a → Stands f (at + 4) (action_body a)
  unfolding action_body u32_bytes u16_bytes
  parts_stand p =
      stands_join front (pair_bytes a.effects) (omega (arith, front_length))
      (stands_join counts (pair_bytes a.conditions) (omega arith)
      (stands_join (cost_bytes ++ condition_count_bytes) effect_count_bytes (omega arith)
      (stands_join cost_bytes condition_count_bytes (omega arith) p.cost p.condition_count)
      p.effect_count)
      p.conditions)
      p.effects

module _ (f : List ℕ) where
  -- an action whose check is done
  module _ (at : ℕ) (e : (action_at f at).number ≡ 0) where
    action_recorded : Octets f → Recorded f at 4 (action_body (action_from f at))
    unfolding action_at head_at body_fits body_rule record_end action_form_at action_length conditions_in effects_in effects_place action_from
    action_recorded o =
        let found = simp facts at e in
        let conditions = pairs_length f (at + 12) (conditions_in f at) in
        let effects = pairs_length f (effects_place f at) (effects_in f at) in
        let long = action_body_length (action_from f at) in
        record {
          long = omega arith;
          named = omega arith;
          stands =
              parts_stand (action_from f at)
              (record {
                cost = u32_stands f o (at + 4) (omega arith);
                condition_count = rw conditions (u16_stands f o (at + 8) (omega arith));
                effect_count = rw effects (u16_stands f o (at + 10) (omega arith));
                conditions = pairs_stand f o (at + 12) (conditions_in f at) (omega arith);
                effects = rw conditions (pairs_stand f o (effects_place f at) (effects_in f at) (omega arith));
              });
        }

    action_checked : (t : Task) → States f t → valid_action t (action_from f at) ≡ true
    unfolding action_at action_form_at action_from valid_action
    action_checked t states =
        let found = simp facts at e in
        let conditions = pairs_length f (at + 12) (conditions_in f at) in
        let effects = pairs_length f (effects_place f at) (effects_in f at) in
        simp facts (
          omega arith,
          (
            omega arith,
            (
              omega arith,
              (
                pairs_checked f t states 0 (at + 12) (conditions_in f at) found.1.1.0,
                pairs_checked f t states 0 (effects_place f at) (effects_in f at) found.1.1.1,
              ),
            ),
          ),
        )

  pub actions_checked : (t : Task) → States f t → (at count : ℕ) → (actions_at f at count).number ≡ 0 → all_of (valid_action t) (actions_from f at count) ≡ true
  unfolding actions_at actions_from
  actions_checked t states at zero e = refl
  actions_checked t states at (suc count) e =
      let found = simp facts at e in
      simp facts (action_checked at found.0 t states, actions_checked t states (record_end f at) count found.1)

  pub actions_signed : (at count : ℕ) → (actions_at f at count).number ≡ 0 → (sign_off_at f (records_end f at count)).number ≡ 0
  unfolding actions_at records_end
  actions_signed at zero e = e
  actions_signed at (suc count) e = let found = simp facts at e in actions_signed (record_end f at) count found.1

  module _ (o : Octets f) where
    pub actions_end : (at count : ℕ) → (actions_at f at count).number ≡ 0 → at + length (action_bytes (actions_from f at count)) ≡ records_end f at count
    unfolding actions_at actions_from action_bytes records_end record_end
    actions_end at zero e = add-zero at
    actions_end at (suc count) e =
        let found = simp facts at e in
        let first = action_body (action_from f at) in
        omega (
          arith,
          (action_recorded at found.0 o).long,
          record_bytes_length 4 first,
          length-append (record_bytes 4 first) (action_bytes (actions_from f (record_end f at) count)),
          actions_end (record_end f at) count found.1,
        )

    pub actions_stand : (at count : ℕ) → at ≤ length f → (actions_at f at count).number ≡ 0 → Stands f at (action_bytes (actions_from f at count))
    unfolding actions_at actions_from action_bytes record_end
    actions_stand at zero h e = stands_none f at h
    actions_stand at (suc count) h e =
        let found = simp facts at e in
        let first = action_body (action_from f at) in
        let r = action_recorded at found.0 o in
        let long = record_bytes_length 4 first in
        stands_join (record_bytes 4 first) (action_bytes (actions_from f (record_end f at) count)) (omega (arith, r.long)) (record_stands o r)
        (actions_stand (record_end f at) count (omega (arith, r.long, r.stands.room)) found.1)

  -- an action that stands
  record ActionRead (at : ℕ) (a : Action) : Type 0 where
    pass : (action_at f at).number ≡ 0
    same : action_from f at ≡ a
    end : record_end f at ≡ at + length (record_bytes 4 (action_body a))

  module _ (t : Task) (states : States f t) (valid : Valid t) where
    action_read : (at : ℕ) (a : Action) → Stands f at (record_bytes 4 (action_body a)) → valid_action t a ≡ true → ActionRead at a
    unfolding action_at head_at body_fits body_rule record_end action_form_at action_length conditions_in effects_in effects_place action_from
    action_read at a s h =
        let v = action_valid t a h in
        let long = action_body_length a in
        let r = recorded 4 (action_body a) s (omega arith) (omega (arith, v.conditions_few, v.effects_few)) in
        let p = parts a r.stands in
        let cost = stands_u32 a.cost p.cost (omega (arith, v.cost)) in
        let condition_count = stands_u16 (length a.conditions) p.condition_count (omega (arith, v.conditions_few)) in
        let effect_count = stands_u16 (length a.effects) p.effect_count (omega (arith, v.effects_few)) in
        let conditions : pairs_from f (at + 12) (conditions_in f at) ≡ a.conditions =
        rw condition_count (pairs_read f t valid 0 a.conditions (at + 12) p.conditions v.conditions) in
        let effects : pairs_from f (effects_place f at) (effects_in f at) ≡ a.effects =
        rw (condition_count, effect_count) (pairs_read f t valid 0 a.effects (at + 12 + 4 * length a.conditions) p.effects v.effects) in
        record {
          pass =
              simp facts (
                omega (arith, r.long, r.named, r.stands.room),
                (
                  omega (arith, v.cost, v.conditions_few, v.effects_few, r.long),
                  (
                    pairs_pass f t states 0 (at + 12) (conditions_in f at) (rw conditions v.conditions),
                    pairs_pass f t states 0 (effects_place f at) (effects_in f at) (rw effects v.effects),
                  ),
                ),
              );
          same = λ i. action (cost i) (conditions i) (effects i);
          end = omega (arith, record_bytes_length 4 (action_body a), r.long);
        }

    pub actions_read : (actions : List Action) (at : ℕ) → Stands f at (action_bytes actions) → all_of (valid_action t) actions ≡ true → actions_from f at (length actions) ≡ actions
    unfolding actions_from action_bytes
    actions_read [] at s h = refl
    actions_read (a ∷ actions) at s h =
        let v = simp facts at h in
        let first = action_read at a (stands_left (record_bytes 4 (action_body a)) (action_bytes actions) s) v.0 in
        let rest = actions_read actions (record_end f at) (stands_right (record_bytes 4 (action_body a)) (action_bytes actions) first.end s) v.1 in
        λ i. first.same i ∷ rest i

    -- the sign-off stands behind the actions
    pub actions_pass : (actions : List Action) (at end : ℕ) → Stands f at (action_bytes actions) → all_of (valid_action t) actions ≡ true
        → at + length (action_bytes actions) ≡ end → (sign_off_at f end).number ≡ 0 → (actions_at f at (length actions)).number ≡ 0
    unfolding actions_at action_bytes
    actions_pass [] at end s h l e = let same : at ≡ end = omega arith in rw same e
    actions_pass (a ∷ actions) at end s h l e =
        let v = simp facts at h in
        let first = action_read at a (stands_left (record_bytes 4 (action_body a)) (action_bytes actions) s) v.0 in
        simp facts (
          first.pass,
          actions_pass actions (record_end f at) end (stands_right (record_bytes 4 (action_body a)) (action_bytes actions) first.end s) v.1
              (omega (arith, first.end, length-append (record_bytes 4 (action_body a)) (action_bytes actions)))
              e,
        )
