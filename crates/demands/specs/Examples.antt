-- The cases that document 01 marks P, its listing of task E, and 02's examples of a cheaper action that covers and of level 5:
-- what the definitions find, and what the documents say.
use Rattle.std.specs.Prelude.{ℕ, List, [], ◌∷◌, ◌++◌, map, replicate}
use Rattle.files.specs.Bytes.{u16_bytes}
use Rattle.files.specs.Examples.{file_e, file_without_line, file_lamp_alone, used, outcome_parts, Case, case}
use Rattle.files.specs.Task.{pair, variable, action}
use Rattle.files.specs.Records.{record_bytes}
use Rattle.files.specs.TaskFile.{task_file, check_task}
use Rattle.files.specs.PlanFile.{plan_file}
use Rattle.plans.specs.Check.{Checked, check_plan}
use Rattle.marking.specs.Examples.{task_e1}
use Rattle.marking.specs.Mark.{mark_buffers, mark, mark_after}
use Rattle.reduction.specs.Reduce.{Reduced, Buffers, buffers, reduce, reduce_after}
use Rattle.search.specs.Planner.{Lent, lent_of, plan_answer, plan_after, Planned}
use Rattle.distances.specs.Table.{entry, minutes_of, steps_of}
use Rattle.digits.specs.Decimal.{ascii}
use Rattle.demands.specs.Listing.{listing}

-- a header record alone
abbrev pub header_of : ℕ → List ℕ
header_of variables = record_bytes 1 (u16_bytes variables ++ u16_bytes 0)

-- E with action 1 of cost 1
abbrev pub file_e1 : List ℕ
file_e1 = task_file task_e1 7

-- the 80 bytes of E reduced at level 4, and of E1: by the cost of action 1
abbrev pub reduced_at : ℕ → List ℕ
reduced_at cost =
    0x04 ∷ 0x00 ∷ 0x01 ∷ 0x00 ∷ 0x02 ∷ 0x00 ∷ 0x02 ∷ 0x00
    ∷ 0x04 ∷ 0x00 ∷ 0x02 ∷ 0x00 ∷ 0x02 ∷ 0x00 ∷ 0x01 ∷ 0x00
    ∷ 0x04 ∷ 0x00 ∷ 0x02 ∷ 0x00 ∷ 0x02 ∷ 0x00 ∷ 0x01 ∷ 0x00
    ∷ 0x04 ∷ 0x00 ∷ 0x03 ∷ 0x00 ∷ 0x01 ∷ 0x00 ∷ 0x00 ∷ 0x00
    ∷ 0x10 ∷ 0x00 ∷ 0x04 ∷ 0x00 ∷ 0x02 ∷ 0x00 ∷ 0x00 ∷ 0x00 ∷ 0x01 ∷ 0x00 ∷ 0x01 ∷ 0x00
    ∷ 0x00 ∷ 0x00 ∷ 0x00 ∷ 0x00 ∷ 0x01 ∷ 0x00 ∷ 0x00 ∷ 0x00
    ∷ 0x0C ∷ 0x00 ∷ 0x04 ∷ 0x00 ∷ cost ∷ 0x00 ∷ 0x00 ∷ 0x00 ∷ 0x00 ∷ 0x00 ∷ 0x01 ∷ 0x00
    ∷ 0x01 ∷ 0x00 ∷ 0x00 ∷ 0x00
    ∷ 0x08 ∷ 0x00 ∷ 0x05 ∷ 0x00 ∷ 0x07 ∷ 0x00 ∷ 0x00 ∷ 0x00 ∷ 0x44 ∷ 0x00 ∷ 0x00 ∷ 0x00
    ∷ []

-- the 52 bytes of E reduced at level 5, and the 30 of its origins
abbrev pub turned_e : List ℕ
turned_e =
    0x04 ∷ 0x00 ∷ 0x01 ∷ 0x00 ∷ 0x01 ∷ 0x00 ∷ 0x01 ∷ 0x00
    ∷ 0x04 ∷ 0x00 ∷ 0x02 ∷ 0x00 ∷ 0x02 ∷ 0x00 ∷ 0x01 ∷ 0x00
    ∷ 0x04 ∷ 0x00 ∷ 0x03 ∷ 0x00 ∷ 0x00 ∷ 0x00 ∷ 0x00 ∷ 0x00
    ∷ 0x0C ∷ 0x00 ∷ 0x04 ∷ 0x00 ∷ 0x02 ∷ 0x00 ∷ 0x00 ∷ 0x00 ∷ 0x00 ∷ 0x00 ∷ 0x01 ∷ 0x00
    ∷ 0x00 ∷ 0x00 ∷ 0x00 ∷ 0x00
    ∷ 0x08 ∷ 0x00 ∷ 0x05 ∷ 0x00 ∷ 0x07 ∷ 0x00 ∷ 0x00 ∷ 0x00 ∷ 0x28 ∷ 0x00 ∷ 0x00 ∷ 0x00
    ∷ []

abbrev pub origin_e : List ℕ
origin_e =
    0x08 ∷ 0x00 ∷ 0x06 ∷ 0x00 ∷ 0x02 ∷ 0x00 ∷ 0x01 ∷ 0x00 ∷ 0x00 ∷ 0x00 ∷ 0x01 ∷ 0x00
    ∷ 0x02 ∷ 0x00 ∷ 0x07 ∷ 0x00 ∷ 0x01 ∷ 0x00
    ∷ 0x08 ∷ 0x00 ∷ 0x05 ∷ 0x00 ∷ 0x07 ∷ 0x00 ∷ 0x00 ∷ 0x00 ∷ 0x12 ∷ 0x00 ∷ 0x00 ∷ 0x00
    ∷ []

-- task N, whose second turn only gives values new numbers: one variable, and an action that cannot start
abbrev pub file_n : List ℕ
file_n =
    task_file
    (record {
      variables = variable 3 1 ∷ [];
      goal = pair 0 2 ∷ [];
      actions = action 1 (pair 0 1 ∷ []) (pair 0 2 ∷ []) ∷ action 1 (pair 0 0 ∷ []) (pair 0 1 ∷ []) ∷ [];
    })
    7

-- the 56 bytes of N reduced at level 5, and the 30 of its origins
abbrev pub turned_n : List ℕ
turned_n =
    0x04 ∷ 0x00 ∷ 0x01 ∷ 0x00 ∷ 0x01 ∷ 0x00 ∷ 0x01 ∷ 0x00
    ∷ 0x04 ∷ 0x00 ∷ 0x02 ∷ 0x00 ∷ 0x03 ∷ 0x00 ∷ 0x00 ∷ 0x00
    ∷ 0x04 ∷ 0x00 ∷ 0x03 ∷ 0x00 ∷ 0x00 ∷ 0x00 ∷ 0x01 ∷ 0x00
    ∷ 0x10 ∷ 0x00 ∷ 0x04 ∷ 0x00 ∷ 0x01 ∷ 0x00 ∷ 0x00 ∷ 0x00 ∷ 0x01 ∷ 0x00 ∷ 0x01 ∷ 0x00
    ∷ 0x00 ∷ 0x00 ∷ 0x00 ∷ 0x00 ∷ 0x00 ∷ 0x00 ∷ 0x01 ∷ 0x00
    ∷ 0x08 ∷ 0x00 ∷ 0x05 ∷ 0x00 ∷ 0x07 ∷ 0x00 ∷ 0x00 ∷ 0x00 ∷ 0x2C ∷ 0x00 ∷ 0x00 ∷ 0x00
    ∷ []

abbrev pub origin_n : List ℕ
origin_n =
    0x08 ∷ 0x00 ∷ 0x06 ∷ 0x00 ∷ 0x00 ∷ 0x00 ∷ 0x02 ∷ 0x00 ∷ 0x00 ∷ 0x00 ∷ 0x01 ∷ 0x00
    ∷ 0x02 ∷ 0x00 ∷ 0x07 ∷ 0x00 ∷ 0x00 ∷ 0x00
    ∷ 0x08 ∷ 0x00 ∷ 0x05 ∷ 0x00 ∷ 0x07 ∷ 0x00 ∷ 0x00 ∷ 0x00 ∷ 0x12 ∷ 0x00 ∷ 0x00 ∷ 0x00
    ∷ []

-- no variables, an empty goal and one action
abbrev pub file_one_action : List ℕ
file_one_action = task_file (record { variables = []; goal = []; actions = action 1 [] [] ∷ [] }) 7

-- answers as numbers
abbrev pub check_numbers : Checked → List ℕ
check_numbers c = outcome_parts c.outcome ++ (c.cost.0 ∷ c.steps.0 ∷ [])

abbrev pub plan_numbers : Planned → List ℕ
plan_numbers p = outcome_parts p.outcome ++ (p.cost.0 ∷ p.steps.0 ∷ [])

-- the lengths of both files, the rounds and the turns
abbrev pub turn_numbers : Reduced → List ℕ
turn_numbers r = outcome_parts r.outcome ++ (r.reduced ∷ r.origin ∷ r.rounds ∷ r.turns ∷ [])

-- buffers for a small task
abbrev pub small_buffers : Lent
small_buffers = lent_of (used 8) (used 9) (used 100) (used 60) (replicate 12 (entry 9 9)) (used 20)

abbrev pub small_four : Buffers
small_four = small_buffers.buffers

-- the outcome, the rounds and the action marks of a file of 7 actions and 8 facts
abbrev pub kept_numbers : List ℕ → ℕ → List ℕ
kept_numbers file level =
    let b = mark_buffers (used 7) (used 8) in
    let m = mark file level b in
    outcome_parts m.outcome ++ (m.rounds ∷ []) ++ (mark_after file level b).actions

unfoldable pub cases : List Case
cases =
    -- empty file, 1 at 0
    case (outcome_parts (check_task [])) (1 ∷ 0 ∷ 0 ∷ [])
    -- header with 65 variables, 4 at 4; 64 passes there, and the file ends at 8
    ∷ case (outcome_parts (check_task (header_of 65))) (4 ∷ 0 ∷ 4 ∷ [])
    ∷ case (outcome_parts (check_task (header_of 64))) (1 ∷ 0 ∷ 8 ∷ [])
    -- level 1 keeps all in 3 rounds; 2 keeps 0 1 2 4 in 3; 3 keeps 0 1 2 in 3; 4 keeps 0 1 in 2
    ∷ case (kept_numbers file_e 1) (0 ∷ 0 ∷ 0 ∷ 3 ∷ 1 ∷ 1 ∷ 1 ∷ 1 ∷ 1 ∷ 1 ∷ 1 ∷ [])
    ∷ case (kept_numbers file_e 2) (0 ∷ 0 ∷ 0 ∷ 3 ∷ 1 ∷ 1 ∷ 1 ∷ 0 ∷ 1 ∷ 0 ∷ 0 ∷ [])
    ∷ case (kept_numbers file_e 3) (0 ∷ 0 ∷ 0 ∷ 3 ∷ 1 ∷ 1 ∷ 1 ∷ 0 ∷ 0 ∷ 0 ∷ 0 ∷ [])
    ∷ case (kept_numbers file_e 4) (0 ∷ 0 ∷ 0 ∷ 2 ∷ 1 ∷ 1 ∷ 0 ∷ 0 ∷ 0 ∷ 0 ∷ 0 ∷ [])
    -- plan 2, 0 costs 3
    ∷ case (check_numbers (check_plan file_e (plan_file (2 ∷ 0 ∷ []) 7))) (0 ∷ 0 ∷ 0 ∷ 3 ∷ 2 ∷ [])
    -- plan 0: 22 at 0
    ∷ case (check_numbers (check_plan file_e (plan_file (0 ∷ []) 7))) (22 ∷ 0 ∷ 0 ∷ 0 ∷ 0 ∷ [])
    -- plan 2: 23 at 1
    ∷ case (check_numbers (check_plan file_e (plan_file (2 ∷ []) 7))) (23 ∷ 0 ∷ 1 ∷ 0 ∷ 0 ∷ [])
    -- without actions 0 and 1: 24
    ∷ case (plan_numbers (plan_answer file_without_line 4 7 small_buffers)) (24 ∷ 0 ∷ 0 ∷ 0 ∷ 0 ∷ [])
    -- goal lamp=1 alone: level 3 keeps nothing, the plan is empty
    ∷ case (kept_numbers file_lamp_alone 3) (0 ∷ 0 ∷ 0 ∷ 1 ∷ 0 ∷ 0 ∷ 0 ∷ 0 ∷ 0 ∷ 0 ∷ 0 ∷ [])
    ∷ case (plan_numbers (plan_answer file_lamp_alone 4 7 small_buffers)) (0 ∷ 0 ∷ 0 ∷ 0 ∷ 0 ∷ [])
    ∷ case (plan_after file_lamp_alone 4 7 small_buffers).plan (plan_file [] 7 ++ used 4)
    -- E reduced at level 4; elements past the result are untouched
    ∷ case (reduce_after file_e 4 7 (buffers (used 8) (used 9) (used 82) (used 60))).reduced (reduced_at 2 ++ used 2)
    -- what `shortest` prints for E
    ∷ case (listing file_e) (ascii "task 3 7\nkept 2 2\nstep 1\ncost 2 steps 1\n")
    -- 02, U3: if action 1 costs 1, level 4 keeps 0 and 1, in 2 rounds
    ∷ case (kept_numbers file_e1 4) (0 ∷ 0 ∷ 0 ∷ 2 ∷ 1 ∷ 1 ∷ 0 ∷ 0 ∷ 0 ∷ 0 ∷ 0 ∷ [])
    ∷ case (mark_after file_e1 4 (mark_buffers (used 7) (used 8))).facts (0 ∷ 0 ∷ 0 ∷ 0 ∷ 2 ∷ 0 ∷ 1 ∷ 0 ∷ [])
    ∷ case (reduce_after file_e1 4 7 (buffers (used 8) (used 9) (used 82) (used 60))).reduced (reduced_at 1 ++ used 2)
    ∷ case (listing file_e1) (ascii "task 3 7\nkept 2 2\nstep 1\ncost 1 steps 1\n")
    -- 02, U4: E at level 5 takes 3 turns and ends with action 1 alone; rounds and marks are those of level 4
    ∷ case (turn_numbers (reduce file_e 5 7 small_four)) (0 ∷ 0 ∷ 0 ∷ 52 ∷ 30 ∷ 2 ∷ 3 ∷ [])
    ∷ case (reduce_after file_e 5 7 small_four).actions (1 ∷ 1 ∷ 0 ∷ 0 ∷ 0 ∷ 0 ∷ 0 ∷ used 1)
    ∷ case (reduce_after file_e 5 7 small_four).facts (0 ∷ 0 ∷ 0 ∷ 0 ∷ 2 ∷ 0 ∷ 1 ∷ 0 ∷ used 1)
    ∷ case (reduce_after file_e 5 7 small_four).reduced (turned_e ++ used 48)
    ∷ case (reduce_after file_e 5 7 small_four).origin (origin_e ++ used 30)
    -- its plan is 1, of cost 2; the table has (0,0) and (2,1)
    ∷ case (plan_numbers (plan_answer file_e 5 7 small_buffers)) (0 ∷ 0 ∷ 0 ∷ 2 ∷ 1 ∷ [])
    ∷ case (map minutes_of (plan_after file_e 5 7 small_buffers).table) (0 ∷ 2 ∷ used 10)
    ∷ case (map steps_of (plan_after file_e 5 7 small_buffers).table) (0 ∷ 1 ∷ used 10)
    ∷ case (plan_after file_e 5 7 small_buffers).plan (plan_file (1 ∷ []) 7 ++ used 2)
    -- the planner takes no level 3: 8 at 0, also with signer 0
    ∷ case (plan_numbers (plan_answer file_e 3 7 small_buffers)) (8 ∷ 0 ∷ 0 ∷ 0 ∷ 0 ∷ [])
    ∷ case (plan_numbers (plan_answer file_e 3 0 small_buffers)) (8 ∷ 0 ∷ 0 ∷ 0 ∷ 0 ∷ [])
    -- N takes 3 turns, one action without variables 2, which is the bound
    ∷ case (turn_numbers (reduce file_n 5 7 small_four)) (0 ∷ 0 ∷ 0 ∷ 56 ∷ 30 ∷ 3 ∷ 3 ∷ [])
    ∷ case (reduce_after file_n 5 7 small_four).reduced (turned_n ++ used 44)
    ∷ case (reduce_after file_n 5 7 small_four).origin (origin_n ++ used 30)
    ∷ case (turn_numbers (reduce file_one_action 5 7 small_four)) (0 ∷ 0 ∷ 0 ∷ 24 ∷ 16 ∷ 1 ∷ 2 ∷ [])
    ∷ []
