-- Ranges of numbers, and the lowest number that passes a test.
use Rattle.std.specs.Prelude.{ℕ, zero, suc, List, [], ◌∷◌, Bool, cond}

-- the k numbers from a on: a, a + 1, ..
abbrev pub from : ℕ → ℕ → List ℕ
from a zero = []
from a (suc k) = a ∷ from (suc a) k

-- the numbers below k, the largest first
abbrev pub countdown : ℕ → List ℕ
countdown zero = []
countdown (suc k) = k ∷ countdown k

-- of the k numbers from a on, the first that passes, or else the number after them
unfoldable pub first_from : (ℕ → Bool) → ℕ → ℕ → ℕ
first_from f a zero = a
first_from f a (suc k) = let later = first_from f (suc a) k in cond (f a) a later

-- the lowest number below n that passes, or else n
abbrev pub lowest : (ℕ → Bool) → ℕ → ℕ
lowest f n = first_from f 0 n
