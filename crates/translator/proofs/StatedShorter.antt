-- The file of the task that a supported text states is shorter than the text.
use Prim.Native.Nat.{ℕ, ◌+◌, ◌*◌, ◌≤◌}
use mathlib.Core.Path.{◌≡◌}
use mathlib.Core.Bool.{Bool, true}
use mathlib.Core.List.{List, [], ◌∷◌, ◌++◌, map}
use native.Mathlib.Omega.{arith}
use lib.ListN.{length, length-append}
use Rattle.files.specs.Records.{record_bytes}
use Rattle.files.specs.Task.{Action, Task, variable_count}
use Rattle.files.specs.TaskFile.{action_body, action_bytes, task_records, task_file}
use Rattle.files.proofs.Lengths.{record_bytes_length, signed_length, action_body_length, task_records_length}
use Rattle.translator.specs.Sas.{Operator, Sas, joined, printed_pair, printed_operator, printed}
use Rattle.translator.specs.Stated.{supported, old_pairs, new_pairs, operator_action, textual, ordered_action, ordered, stated}
use Rattle.translator.proofs.OrderLaws.{order_shorter}
use Rattle.translator.proofs.Supported.{Supported, text_supported, variables_stated}
use Rattle.translator.proofs.TextLengths.{joined_long, pair_long, operator_long, variables_long, text_long}

action_shorter : (n : ℕ) (metric : Bool) (o : Operator) → length (record_bytes 4 (action_body (ordered_action n (operator_action metric o)))) + 23 ≤ length (printed_operator o)
unfolding ordered_action operator_action
action_shorter n metric o =
    let a : Action = ordered_action n (operator_action metric o) in
    omega (
      arith,
      record_bytes_length 4 (action_body a),
      action_body_length a,
      order_shorter 0 n (o.prevail ++ old_pairs o.effects),
      length-append o.prevail (old_pairs o.effects),
      order_shorter 0 n (new_pairs o.effects),
      operator_long o,
    )

actions_shorter : (n : ℕ) (metric : Bool) (os : List Operator)
    → length (action_bytes (map (ordered_action n) (map (operator_action metric) os))) + 23 * length os ≤ length (joined printed_operator os)
unfolding action_bytes joined
actions_shorter n metric [] = omega arith
actions_shorter n metric (o ∷ os) = simp length-append (omega (arith, action_shorter n metric o, actions_shorter n metric os))

pub stated_shorter : (x : Sas) → supported x ≡ true → (signer : ℕ)
    → length (task_file (stated x) signer) + 82 + 29 * length x.variables + 23 * length x.operators ≤ length (printed x)
unfolding task_file stated ordered textual
stated_shorter x h signer =
    let t : Task = stated x in
    let n : ℕ = variable_count (textual x) in
    let fits : Supported x = text_supported x h in
    omega (
      arith,
      signed_length signer (task_records t),
      task_records_length t,
      variables_stated x,
      order_shorter 0 n x.goal,
      joined_long printed_pair 4 x.goal pair_long,
      actions_shorter n x.metric x.operators,
      variables_long x.variables fits.declarations,
      text_long x,
    )
