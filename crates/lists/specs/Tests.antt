-- Tests on lists: some entry passes, every entry passes, how many pass, an entry is there, an entry stands twice, two lists are equal.
use Rattle.std.specs.List.{list_any}
use Rattle.std.specs.Prelude.{ℕ, ◌+◌, List, [], ◌∷◌, Bool, true, false, cond, ◌&&◌, ◌||◌, eqb}

module _ {A : Type 0} where
  -- how many entries pass
  abbrev pub tally : (A → Bool) → List A → ℕ
  tally f [] = 0
  tally f (a ∷ l) = cond (f a) 1 0 + tally f l

  -- there is no entry
  abbrev pub is_empty : List A → Bool
  is_empty [] = true
  is_empty (a ∷ l) = false

-- a is an entry
abbrev pub member : ℕ → List ℕ → Bool
member a l = list_any (eqb a) l

-- some entry stands again after itself
abbrev pub repeats : List ℕ → Bool
repeats [] = false
repeats (a ∷ l) = member a l || repeats l

-- the same entries in the same order
abbrev pub same_list : List ℕ → List ℕ → Bool
same_list [] [] = true
same_list [] (b ∷ m) = false
same_list (a ∷ l) [] = false
same_list (a ∷ l) (b ∷ m) = eqb a b && same_list l m
