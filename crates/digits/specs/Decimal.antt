-- Numbers as text: ASCII, decimal digits, and a column in which a number stands flush right.
use Rattle.std.specs.Prelude.{ℕ, zero, suc, ◌+◌, ◌-◌, ◌*◌, ◌/◌, ◌%◌, cond, List, [], ◌∷◌, ◌++◌, ltb, length, replicate}
use Prim.Native.Char.{code}
use Prim.Native.String as text
use Prim.Native.String.{String}

-- the bytes of an ASCII text
unfoldable pub ascii : String → List ℕ
ascii text.[] = []
ascii (text.◌∷◌ c s) = code c ∷ ascii s

-- a number below 2^64 in decimal, at most `count` digits
unfoldable pub digits : ℕ → ℕ → List ℕ
digits zero n = []
digits (suc count) n =
    let front = digits count (n / 10) in
    cond (ltb n 10) [] front ++ ((48 + n % 10) ∷ [])

unfoldable pub decimal : ℕ → List ℕ
decimal n = digits 20 n

-- flush right: blanks up to the width, then the number
unfoldable pub column : ℕ → ℕ → List ℕ
column width n = replicate (width - length (decimal n)) 32 ++ decimal n

-- the number that digits state, behind one that is read
unfoldable pub number_from : ℕ → List ℕ → ℕ
number_from n [] = n
number_from n (digit ∷ rest) = number_from (10 * n + (digit - 48)) rest

unfoldable pub number_of : List ℕ → ℕ
number_of text = number_from 0 text
