-- The length of a list taken two by two, and the end of a squeezed list.
use Prim.Native.Nat.{ℕ, ◌/◌}
use mathlib.Core.Path.{◌≡◌, refl, ap}
use mathlib.Core.List.{List, [], ◌∷◌, ◌++◌}
use native.Mathlib.Omega.{arith}
use mathlib.Core.Bool.{Bool, true, false, cond}
use lib.ListN.{length}
use lib.Dec.{eqb}
use borrow.Author.Tests.{eqb-true}
use Rattle.lists.specs.Parts.{pairs, squeeze, squeeze_after}

pub length_pairs : {A : Type 0} (l : List A) → length (pairs l) ≡ length l / 2
length_pairs [] = refl
length_pairs (a ∷ []) = refl
length_pairs (a ∷ b ∷ l) = omega (arith, length_pairs l)

-- ---- the end of a squeezed list
-- squeezed after an entry
before_more : (a : ℕ) (l m : List ℕ) → (r : List ℕ) × (a ∷ squeeze_after a (l ++ m) ≡ r ++ squeeze m)
before_more a [] [] = (a ∷ [], refl)
before_more a [] (b ∷ m) = go (eqb a b) refl
  where
    go : (t : Bool) → eqb a b ≡ t → (r : List ℕ) × (a ∷ cond t (squeeze_after a m) (b ∷ squeeze_after b m) ≡ r ++ (b ∷ squeeze_after b m))
    go true e = let q = eqb-true a b e in ([], (λ i. q i ∷ squeeze_after (q i) m))
    go false e = (a ∷ [], refl)
before_more a (b ∷ l) m = go (eqb a b) (before_more a l m) (before_more b l m)
  where
    go : (t : Bool) → (r : List ℕ) × (a ∷ squeeze_after a (l ++ m) ≡ r ++ squeeze m) → (r : List ℕ) × (b ∷ squeeze_after b (l ++ m) ≡ r ++ squeeze m)
        → (r : List ℕ) × (a ∷ cond t (squeeze_after a (l ++ m)) (b ∷ squeeze_after b (l ++ m)) ≡ r ++ squeeze m)
    go true h k = h
    go false h k = let (r, e) = k in (a ∷ r, ap {B = List ℕ} (λ x. a ∷ x) e)

-- what is squeezed of a longer list ends with what is squeezed of its end
pub squeeze-before : (l m : List ℕ) → (r : List ℕ) × (squeeze (l ++ m) ≡ r ++ squeeze m)
squeeze-before [] m = ([], refl)
squeeze-before (a ∷ l) m = before_more a l m
