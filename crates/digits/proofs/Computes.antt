-- The crate's definitions under one name: to unfold `computes` is to unfold them all.
use Rattle.digits.specs.Decimal.{ascii, digits, decimal, column, number_from, number_of}

unfoldable pub computes : Unit {0}
unfolding ascii digits decimal column number_from number_of
computes = tt
