-- Spans: a stretch of an array as a list, read by a total accessor. What lies outside the array reads as 0.
use Rattle.std.specs.Prelude.{ℕ, zero, suc, ◌-◌, List, [], ◌∷◌, ◌++◌, get_or, replicate, length}

-- the k entries of l from i on
unfoldable pub stretch : List ℕ → ℕ → ℕ → List ℕ
stretch l i zero = []
stretch l i (suc k) = get_or l i 0 ∷ stretch l (suc i) k

-- the entries of l from i up to e, e excluded
abbrev pub span : List ℕ → ℕ → ℕ → List ℕ
span l i e = stretch l i (e - i)

-- k zeros; folded, so that a goal does not print them one by one
unfoldable pub zeros : ℕ → List ℕ
zeros k = replicate k 0

-- l in an array of k, and zeros after it
unfoldable pub zero_padded : ℕ → List ℕ → List ℕ
zero_padded k l = l ++ zeros (k - length l)
