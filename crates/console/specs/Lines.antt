-- Texts with marks for numbers.
use Rattle.std.specs.Prelude.{ℕ, suc, ◌+◌, List, [], ◌∷◌, cond, drop, eqb}

-- how many bytes there are up to the first mark, which is 35, with it; all where there is none
unfoldable pub up_to_mark : List ℕ → ℕ
up_to_mark [] = 0
up_to_mark (x ∷ t) = cond (eqb x 35) 1 (suc (up_to_mark t))

-- the index behind the next mark, from an index on
unfoldable pub behind : List ℕ → ℕ → ℕ
behind t i = i + up_to_mark (drop i t)

-- the index behind the sixth mark
unfoldable pub shown : List ℕ → ℕ
shown t = behind t (behind t (behind t (behind t (behind t (behind t 0)))))
