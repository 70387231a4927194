-- Parts of lists: lists joined, neighbouring entries, the entries before one, repeats dropped, rotations.
use Rattle.std.specs.Prelude.{ℕ, suc, List, [], ◌∷◌, ◌++◌, map, cond, length, take, drop, eqb}
use Rattle.lists.specs.Ranges.{from}

module _ {A : Type 0} where
  -- lists joined end to end
  abbrev pub flatten : List (List A) → List A
  flatten [] = []
  flatten (l ∷ ls) = l ++ flatten ls

  -- each entry with the one after it
  abbrev pub steps : List A → List (A × A)
  steps [] = []
  steps (a ∷ []) = []
  steps (a ∷ b ∷ l) = (a, b) ∷ steps (b ∷ l)

  -- the same, and the last entry with the first
  abbrev pub cycle : List A → List (A × A)
  cycle l = steps (l ++ take 1 l)

  -- the entries two by two; one left over is dropped
  abbrev pub pairs : List A → List (A × A)
  pairs [] = []
  pairs (a ∷ []) = []
  pairs (a ∷ b ∷ l) = (a, b) ∷ pairs l

  -- the list begun at each of its entries in turn, going round
  abbrev pub rotations : List A → List (List A)
  rotations l = map (λ (k : ℕ). drop k l ++ take k l) (from 0 (length l))

-- where a first stands; the length if it does not
abbrev pub index_of : ℕ → List ℕ → ℕ
index_of a [] = 0
index_of a (b ∷ l) = cond (eqb a b) 0 (suc (index_of a l))

-- the entries before the first a
abbrev pub before : ℕ → List ℕ → List ℕ
before a [] = []
before a (b ∷ l) = cond (eqb a b) [] (b ∷ before a l)

-- an entry equal to the one before it is dropped; a stands before the list
abbrev pub squeeze_after : ℕ → List ℕ → List ℕ
squeeze_after a [] = []
squeeze_after a (b ∷ l) = cond (eqb a b) (squeeze_after a l) (b ∷ squeeze_after b l)

-- an entry equal to the one before it is dropped
abbrev pub squeeze : List ℕ → List ℕ
squeeze [] = []
squeeze (a ∷ l) = a ∷ squeeze_after a l
