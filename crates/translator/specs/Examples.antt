-- Texts M and S: what the definitions find, and what the document says.
use Rattle.std.specs.Prelude.{ℕ, ◌+◌, List, [], ◌∷◌, ◌++◌, take, drop}
use Prim.Native.String.{String}
use Rattle.files.specs.Examples.{used, outcome_parts, Case, case}
use Rattle.digits.specs.Decimal.{ascii}
use Rattle.translator.specs.Translate.{Translated, translate_answer, translated_file}

-- no variable, no action
abbrev pub text_m : List ℕ
text_m =
    ascii "begin_version\n3\nend_version\nbegin_metric\n0\nend_metric\n0\n0\nbegin_state\nend_state\nbegin_goal\n0\nend_goal\n0\n0\n"

abbrev pub text_s : List ℕ
text_s =
    ascii "begin_version\n3\nend_version\nbegin_metric\n1\nend_metric\n2\nbegin_variable\na\n-1\n3\n\n\n\nend_variable\nbegin_variable\nb\n-1\n2\n\n\nend_variable\n0\nbegin_state\n0\n1\nend_state\nbegin_goal\n2\n1 0\n0 2\nend_goal\n1\nbegin_operator\nturn\n0\n2\n0 1 1 0\n0 0 -1 2\n5\nend_operator\n0\n"

-- a text with `count` bytes at `at` replaced
abbrev pub changed : List ℕ → ℕ → ℕ → String → List ℕ
changed text at count bytes = take at text ++ (ascii bytes ++ drop (at + count) text)

-- the file of M, under signer 7
abbrev pub file_m : List ℕ
file_m = 4 ∷ 0 ∷ 1 ∷ 0 ∷ 0 ∷ 0 ∷ 0 ∷ 0 ∷ 0 ∷ 0 ∷ 3 ∷ 0 ∷ 8 ∷ 0 ∷ 5 ∷ 0 ∷ 7 ∷ 0 ∷ 0 ∷ 0 ∷ 12 ∷ 0 ∷ 0 ∷ 0 ∷ []

-- the file of S, with a cost: its head, variables, goal, action and sign-off
abbrev pub file_s : ℕ → List ℕ
file_s cost =
    4 ∷ 0 ∷ 1 ∷ 0 ∷ 2 ∷ 0 ∷ 1 ∷ 0
    ∷ 4 ∷ 0 ∷ 2 ∷ 0 ∷ 3 ∷ 0 ∷ 0 ∷ 0
    ∷ 4 ∷ 0 ∷ 2 ∷ 0 ∷ 2 ∷ 0 ∷ 1 ∷ 0
    ∷ 8 ∷ 0 ∷ 3 ∷ 0 ∷ 0 ∷ 0 ∷ 2 ∷ 0 ∷ 1 ∷ 0 ∷ 0 ∷ 0
    ∷ 20 ∷ 0 ∷ 4 ∷ 0 ∷ cost ∷ 0 ∷ 0 ∷ 0 ∷ 1 ∷ 0 ∷ 2 ∷ 0 ∷ 1 ∷ 0 ∷ 1 ∷ 0 ∷ 0 ∷ 0 ∷ 2 ∷ 0 ∷ 1 ∷ 0 ∷ 0 ∷ 0
    ∷ 8 ∷ 0 ∷ 5 ∷ 0 ∷ 7 ∷ 0 ∷ 0 ∷ 0 ∷ 60 ∷ 0 ∷ 0 ∷ 0
    ∷ []

-- outcome and file bytes
abbrev pub translate_numbers : Translated → List ℕ
translate_numbers r = outcome_parts r.outcome ++ (r.file ∷ [])

-- of a text under signer 7
abbrev pub numbers_of : List ℕ → List ℕ
numbers_of text = translate_numbers (translate_answer text 7 (used 74))

unfoldable pub cases : List Case
cases =
    -- M: 24 bytes; the last two of 26 are untouched
    case (translate_numbers (translate_answer text_m 7 (used 26))) (0 ∷ 0 ∷ 0 ∷ 24 ∷ [])
    ∷ case (translated_file text_m 7 (used 26)) (file_m ++ used 2)
    -- S: 72 bytes; goal and effects are in rising order
    ∷ case (numbers_of text_s) (0 ∷ 0 ∷ 0 ∷ 72 ∷ [])
    ∷ case (translated_file text_s 7 (used 74)) (file_s 5 ++ used 2)
    -- metric 0: a cost of 1, after the limit on the written one
    ∷ case (translated_file (changed text_s 41 1 "0") 7 (used 72)) (file_s 1)
    ∷ case (numbers_of (changed (changed text_s 41 1 "0") 232 1 "1000001")) (4 ∷ 0 ∷ 232 ∷ 0 ∷ [])
    -- a mutex group is left out
    ∷ case (translated_file (changed text_s 131 1 "1\nbegin_mutex_group\n2\n0 1\n7 5\nend_mutex_group") 7 (used 72)) (file_s 5)
    -- 31: M without its last byte and with one behind it, a spare zero; the text stands before the signer and the buffer
    ∷ case (translate_numbers (translate_answer (take 105 text_m) 0 [])) (31 ∷ 0 ∷ 105 ∷ 0 ∷ [])
    ∷ case (translate_numbers (translate_answer (text_m ++ (10 ∷ [])) 7 (used 26))) (31 ∷ 0 ∷ 106 ∷ 0 ∷ [])
    ∷ case (numbers_of (changed text_s 76 1 "03")) (31 ∷ 0 ∷ 77 ∷ 0 ∷ [])
    -- 32: an axiom layer, an effect condition, an axiom
    ∷ case (numbers_of (changed text_s 73 2 "0")) (32 ∷ 0 ∷ 73 ∷ 0 ∷ [])
    ∷ case (numbers_of (changed text_s 215 1 "1")) (32 ∷ 0 ∷ 215 ∷ 0 ∷ [])
    ∷ case (numbers_of (changed text_s 247 1 "1")) (32 ∷ 0 ∷ 247 ∷ 0 ∷ [])
    -- 33: a variable twice in the goal, and in a prevail condition and an effect
    ∷ case (numbers_of (changed text_s 172 3 "0 1")) (33 ∷ 0 ∷ 176 ∷ 0 ∷ [])
    ∷ case (numbers_of (changed text_s 211 1 "1\n0 0")) (33 ∷ 0 ∷ 229 ∷ 0 ∷ [])
    -- 5: a variable that the text does not have
    ∷ case (numbers_of (changed text_s 176 1 "2")) (5 ∷ 0 ∷ 176 ∷ 0 ∷ [])
    -- signer 0: 7 at 0 stands before 21
    ∷ case (translate_numbers (translate_answer text_m 0 [])) (7 ∷ 0 ∷ 0 ∷ 0 ∷ [])
    -- a buffer of 23 bytes: 21 at 24, and the buffer untouched
    ∷ case (translate_numbers (translate_answer text_m 7 (used 23))) (21 ∷ 0 ∷ 24 ∷ 0 ∷ [])
    ∷ case (translated_file text_m 7 (used 23)) (used 23)
    ∷ []
