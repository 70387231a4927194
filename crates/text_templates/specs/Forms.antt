-- Forms: texts in which each `#`, whose byte is 35, stands for a number.
use Rattle.std.specs.Prelude.{ℕ, List, [], ◌∷◌, ◌++◌, cond, get_or, drop, eqb}
use Prim.Native.String as string
use Rattle.text_templates.specs.Digits.{letters, decimal_digits}

-- 1 for `#`, 0 for any other byte
unfoldable pub placeholder_count : ℕ → ℕ
placeholder_count b = cond (eqb b 35) 1 0

-- what a byte stands for: `#` for a number in decimal, any other byte for itself
unfoldable pub stands : ℕ → ℕ → List ℕ
stands b x = cond (eqb b 35) (decimal_digits x) (b ∷ [])

-- a form with numbers in it: each `#` stands for the next number, and for 0 where there are no more
unfoldable pub filled : List ℕ → List ℕ → List ℕ
filled [] numbers = []
filled (b ∷ form) numbers = stands b (get_or numbers 0 0) ++ filled form (drop (placeholder_count b) numbers)

-- the same of a form that is a word
unfoldable pub filled_word : string.String → List ℕ → List ℕ
filled_word form numbers = filled (letters form) numbers

-- who unfolds this unfolds all of the above: for facts that are computed
unfoldable pub forms_computes : Unit {0}
unfolding placeholder_count stands filled filled_word
forms_computes = tt
