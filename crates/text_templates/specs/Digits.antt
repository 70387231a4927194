-- Words and numbers as bytes of text: the code of each letter, and decimal digits.
use Rattle.std.specs.Prelude.{ℕ, zero, suc, ◌+◌, ◌-◌, ◌*◌, ◌/◌, ◌%◌, List, [], ◌∷◌, ◌++◌, cond, ltb}
use Prim.Native.Char.{code}
use Prim.Native.String as string

-- the bytes of a word
unfoldable pub letters : string.String → List ℕ
letters string.[] = []
letters (string.◌∷◌ c s) = code c ∷ letters s

-- the decimal digits of a number below k: the digits of its tenth, if it has a tenth, then its last digit
unfoldable pub decimal_digits_below : ℕ → ℕ → List ℕ
decimal_digits_below zero x = []
decimal_digits_below (suc k) x =
    let higher = decimal_digits_below k (x / 10) in
    cond (ltb x 10) [] higher ++ ((48 + x % 10) ∷ [])

-- the decimal digits of a number
unfoldable pub decimal_digits : ℕ → List ℕ
decimal_digits x = decimal_digits_below (suc x) x

-- the number that digits say, behind digits that say a
unfoldable pub number : ℕ → List ℕ → ℕ
number a [] = a
number a (d ∷ l) = number (10 * a + (d - 48)) l

-- who unfolds this unfolds all of the above: for facts that are computed
unfoldable pub words_computes : Unit {0}
unfolding letters decimal_digits_below decimal_digits
words_computes = tt
