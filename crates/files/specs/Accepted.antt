-- Accepted tasks, origins and plans: what a file can hold, so that it is written and reads back.
use Rattle.std.specs.Prelude.{ℕ, ◌+◌, ◌^◌, Bool, true, ◌&&◌, List, [], ◌∷◌, map, length, leb, ltb}
use Rattle.files.specs.Below.{all_of}
use Rattle.files.specs.Task.{Pair, Variable, Action, Task, size_of, variable_count, action_count}
use Rattle.files.specs.TaskFile.{task_file}
use Rattle.files.specs.OriginFile.{VariableOrigin, Origin}

-- a signer that a file can carry
unfoldable pub valid_signer : ℕ → Bool
valid_signer signer = leb 1 signer && ltb signer (2 ^ 32)

-- pairs of the task whose variables strictly rise, the first at least `at_least`
unfoldable pub valid_pairs : Task → ℕ → List Pair → Bool
valid_pairs t at_least [] = true
valid_pairs t at_least (p ∷ ps) =
    leb at_least p.variable
    && (ltb p.variable (variable_count t)
    && (ltb p.value (size_of t p.variable)
    && valid_pairs t (p.variable + 1) ps))

unfoldable pub valid_variable : Variable → Bool
valid_variable v = leb 1 v.size && (leb v.size 32 && ltb v.start v.size)

unfoldable pub valid_action : Task → Action → Bool
valid_action t a =
    leb a.cost 1000000
    && (leb (length a.conditions) 64
    && (leb (length a.effects) 64
    && (valid_pairs t 0 a.conditions && valid_pairs t 0 a.effects)))

-- an accepted task (01): the limits of the format, and a file that is not too long
unfoldable pub accepted_task : Task → Bool
accepted_task t =
    leb (variable_count t) 64
    && (leb (action_count t) 512
    && (all_of valid_variable t.variables
    && (leb (length t.goal) 64
    && (valid_pairs t 0 t.goal
    && (all_of (valid_action t) t.actions
    && leb (length (task_file t 1)) 65536)))))

-- numbers that strictly rise below a limit, the first at least `at_least`
unfoldable pub rising : ℕ → ℕ → List ℕ → Bool
rising limit at_least [] = true
rising limit at_least (n ∷ ns) = leb at_least n && (ltb n limit && rising limit (n + 1) ns)

unfoldable pub valid_values : VariableOrigin → Bool
valid_values o = leb 1 (length o.values) && (leb (length o.values) 32 && all_of (λ n. ltb n 32) o.values)

unfoldable pub accepted_origin : Origin → Bool
accepted_origin o = rising 64 0 (map (λ v. v.variable) o.variables) && (all_of valid_values o.variables && rising 512 0 o.actions)

unfoldable pub accepted_plan : ℕ → List ℕ → Bool
accepted_plan actions plan = leb (length plan) 4096 && all_of (λ n. ltb n actions) plan
