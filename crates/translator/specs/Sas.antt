-- What a text of the translator's format, version 3, states, and the text that states it.
use Rattle.std.specs.Prelude.{ℕ, ◌+◌, Bool, not, cond, ◌&&◌, List, [], ◌∷◌, ◌++◌, eqb, length}
use Rattle.std.proofs.Math.Option.{Option, none, some}
use Rattle.files.specs.Below.{all_of}
use Rattle.files.specs.Task.{Pair}
use Rattle.digits.specs.Decimal.{ascii, digits}

-- a variable as it is declared: an axiom layer, none for -1, and a name for each value
pub record Declaration : Type 0 where
  pub name : List ℕ
  pub layer : Option ℕ
  pub values : List (List ℕ)

pub record Started : Type 0 where
  pub declared : Declaration
  pub start : ℕ

-- an effect: its conditions, the old value, none for -1, and the new one
pub record Effect : Type 0 where
  pub conditions : List Pair
  pub variable : ℕ
  pub old : Option ℕ
  pub new : ℕ

pub record Operator : Type 0 where
  pub name : List ℕ
  pub prevail : List Pair
  pub effects : List Effect
  pub cost : ℕ

-- an axiom
pub record Rule : Type 0 where
  pub conditions : List Pair
  pub variable : ℕ
  pub old : ℕ
  pub new : ℕ

pub record Sas : Type 0 where
  pub metric : Bool
  pub variables : List Started
  pub groups : List (List Pair)
  pub goal : List Pair
  pub operators : List Operator
  pub rules : List Rule

-- a number in decimal, without spare zeros
unfoldable pub numeral : ℕ → List ℕ
numeral n = digits (n + 1) n

-- the bytes that end a number
pub data Separator : Type 0 where
  blank : Separator
  line_feed : Separator

abbrev pub byte_of : Separator → ℕ
byte_of blank = 32
byte_of line_feed = 10

-- a number with its separator
unfoldable pub ended : Separator → ℕ → List ℕ
ended separator n = numeral n ++ (byte_of separator ∷ [])

-- none is written -1
unfoldable pub ended_option : Separator → Option ℕ → List ℕ
ended_option separator none = ascii "-1" ++ (byte_of separator ∷ [])
ended_option separator (some n) = ended separator n

unfoldable pub name_line : List ℕ → List ℕ
name_line name = name ++ (byte_of line_feed ∷ [])

unfoldable pub joined : {A : Type 0} → (A → List ℕ) → List A → List ℕ
joined print [] = []
joined print (x ∷ xs) = print x ++ joined print xs

-- how many there are, then each
unfoldable pub counted : {A : Type 0} → (A → List ℕ) → List A → List ℕ
counted print xs = ended line_feed (length xs) ++ joined print xs

unfoldable pub printed_pair : Pair → List ℕ
printed_pair p = ended blank p.variable ++ ended line_feed p.value

unfoldable pub printed_declaration : Declaration → List ℕ
printed_declaration d =
    ascii "begin_variable\n" ++ (name_line d.name ++ (ended_option line_feed d.layer ++ (counted name_line d.values ++ ascii "end_variable\n")))

unfoldable pub printed_variable : Started → List ℕ
printed_variable v = printed_declaration v.declared

unfoldable pub printed_start : Started → List ℕ
printed_start v = ended line_feed v.start

unfoldable pub printed_group : List Pair → List ℕ
printed_group pairs = ascii "begin_mutex_group\n" ++ (counted printed_pair pairs ++ ascii "end_mutex_group\n")

-- the pair of an effect condition, within the effect's line
unfoldable pub printed_condition : Pair → List ℕ
printed_condition p = ended blank p.variable ++ ended blank p.value

unfoldable pub printed_effect : Effect → List ℕ
printed_effect e =
    ended blank (length e.conditions)
    ++ (joined printed_condition e.conditions
    ++ (ended blank e.variable ++ (ended_option blank e.old ++ ended line_feed e.new)))

unfoldable pub printed_operator : Operator → List ℕ
printed_operator o =
    ascii "begin_operator\n"
    ++ (name_line o.name
    ++ (counted printed_pair o.prevail
    ++ (counted printed_effect o.effects
    ++ (ended line_feed o.cost ++ ascii "end_operator\n"))))

unfoldable pub printed_rule : Rule → List ℕ
printed_rule r =
    ascii "begin_rule\n"
    ++ (counted printed_pair r.conditions
    ++ (ended blank r.variable ++ (ended blank r.old ++ (ended line_feed r.new ++ ascii "end_rule\n"))))

unfoldable pub printed_metric : Bool → List ℕ
printed_metric metric = cond metric (ascii "1\n") (ascii "0\n")

-- the text
unfoldable pub printed : Sas → List ℕ
printed x =
    ascii "begin_version\n3\nend_version\nbegin_metric\n"
    ++ (printed_metric x.metric
    ++ (ascii "end_metric\n"
    ++ (counted printed_variable x.variables
    ++ (counted printed_group x.groups
    ++ (ascii "begin_state\n"
    ++ (joined printed_start x.variables
    ++ (ascii "end_state\nbegin_goal\n"
    ++ (counted printed_pair x.goal
    ++ (ascii "end_goal\n"
    ++ (counted printed_operator x.operators
    ++ counted printed_rule x.rules))))))))))

-- a name: bytes other than a line feed
unfoldable pub is_name : List ℕ → Bool
is_name name = all_of (λ b. not (eqb b 10)) name

unfoldable pub named_declaration : Declaration → Bool
named_declaration d = is_name d.name && all_of is_name d.values

-- every name is one
unfoldable pub well_named : Sas → Bool
well_named x = all_of (λ v. named_declaration v.declared) x.variables && all_of (λ o. is_name o.name) x.operators
