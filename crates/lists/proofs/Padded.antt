-- Arrays that hold a list and zeros after it.
use Prim.Native.Nat.{ℕ, zero, suc, ◌-◌, ◌≤◌}
use mathlib.Core.Path.{◌≡◌, refl}
use mathlib.Core.List.{List, [], ◌∷◌, ◌++◌}
use native.Mathlib.Omega.{arith}
use lib.ListN.{length, get_or, length-append}
use Rattle.lists.specs.Spans.{stretch, zeros, zero_padded}
use Rattle.lists.proofs.Spans.{length-zeros}
use Rattle.lists.proofs.Stretches.{stretch-front}

-- zeros read as 0, inside and outside
pub get_or-zeros : (k i : ℕ) → get_or (zeros k) i 0 ≡ 0
unfolding zeros
get_or-zeros zero i = refl
get_or-zeros (suc k) zero = refl
get_or-zeros (suc k) (suc i) = get_or-zeros k i

-- with zeros after it a list reads the same
get_or-before : (l : List ℕ) (k i : ℕ) → get_or (l ++ zeros k) i 0 ≡ get_or l i 0
get_or-before [] k i = get_or-zeros k i
get_or-before (a ∷ l) k zero = refl
get_or-before (a ∷ l) k (suc i) = get_or-before l k i

-- so does an array that holds it
pub get_or-zero_padded : (k : ℕ) (l : List ℕ) (i : ℕ) → get_or (zero_padded k l) i 0 ≡ get_or l i 0
unfolding zero_padded
get_or-zero_padded k l i = get_or-before l (k - length l) i

-- the array has its length
pub length-zero_padded : (k : ℕ) (l : List ℕ) → length l ≤ k → length (zero_padded k l) ≡ k
unfolding zero_padded
length-zero_padded k l h = let a = length-append l (zeros (k - length l)) in let b = length-zeros (k - length l) in omega arith

-- a stretch of the array is one of the list
pub stretch-held : (k : ℕ) (l : List ℕ) (i m : ℕ) → stretch (zero_padded k l) i m ≡ stretch l i m
unfolding stretch
stretch-held k l i zero = refl
stretch-held k l i (suc m) = λ j. get_or-zero_padded k l i j ∷ stretch-held k l (suc i) m j

-- the list is read back
pub stretch-zero_padded : (k : ℕ) (l : List ℕ) → stretch (zero_padded k l) 0 (length l) ≡ l
unfolding zero_padded
stretch-zero_padded k l = stretch-front l (zeros (k - length l))
