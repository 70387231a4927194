-- Sums and counts over the numbers below n.
use Prim.Native.Nat.{ℕ, zero, suc, ◌+◌, ◌-◌, ◌*◌, ◌≤◌, ◌<◌}
use mathlib.Core.Path.{◌≡◌, refl}
use mathlib.Core.List.{List, [], ◌∷◌, Memᴰ}
use mathlib.Core.Logic.{◌≢◌}
use mathlib.Core.Bool.{Bool, true, false, cond, false≢true, or-true}
use native.Mathlib.Omega.{arith}
use native.Mathlib.Nat.{suc-mul}
use lib.ListN.{length}
use lib.Dec.{eqb, leb}
use borrow.Author.Tests.{eqb-true, eqb-false, eq-eqb, leb-true}
use Rattle.lists.specs.Tests.{member, repeats}
use Rattle.lists.proofs.Bools.{or_no}

-- f 0 + .. + f (n − 1)
pub sum_below : (ℕ → ℕ) → ℕ → ℕ
sum_below f zero = 0
sum_below f (suc k) = sum_below f k + f k

pub sum_below_mono : (f g : ℕ → ℕ) (k : ℕ) → ((u : ℕ) → f u ≤ g u) → sum_below f k ≤ sum_below g k
unfolding sum_below
sum_below_mono f g zero h = omega arith
sum_below_mono f g (suc k) h = let x = sum_below_mono f g k h in let y = h k in omega arith

-- of two sums, term by term in order, that are not in strict order, all terms are equal
pub sum_below_equal : (f g : ℕ → ℕ) (k : ℕ) → ((u : ℕ) → f u ≤ g u) → sum_below g k ≤ sum_below f k → (u : ℕ) → u < k → f u ≡ g u
unfolding sum_below
sum_below_equal f g zero h s u q = absurd (omega arith)
sum_below_equal f g (suc k) h s u q = go (sum_below_equal f g k h (let x = h k in omega arith)) (eqb u k) refl
  where
    go : ((w : ℕ) → w < k → f w ≡ g w) → (t : Bool) → eqb u k ≡ t → f u ≡ g u
    go r true e = let x = sum_below_mono f g k h in let y = h k in let same : f k ≡ g k = omega arith in rw (eqb-true u k e) same
    go r false e = r u (let x : u ≢ k = eqb-false u k e in omega arith)

pub sum_below_bound : (f : ℕ → ℕ) (b k : ℕ) → ((u : ℕ) → f u ≤ b) → sum_below f k ≤ k * b
unfolding sum_below
sum_below_bound f b zero h = omega arith
sum_below_bound f b (suc k) h = let x = sum_below_bound f b k h in let y = h k in rw (suc-mul k b) (omega arith)

-- how many numbers below n pass
pub count_below : (ℕ → Bool) → ℕ → ℕ
count_below f zero = 0
count_below f (suc k) = count_below f k + cond (f k) 1 0

one_mono : (s t : Bool) → (s ≡ true → t ≡ true) → cond s 1 0 ≤ cond t 1 0
one_mono true true h = omega arith
one_mono true false h = absurd (false≢true (h refl))
one_mono false true h = omega arith
one_mono false false h = omega arith

-- one of two numbers, neither of them above a third
pub cond-le : (t : Bool) (a b k : ℕ) → a ≤ k → b ≤ k → cond t a b ≤ k
cond-le true a b k h l = h
cond-le false a b k h l = l

pub count_below-le : (f : ℕ → Bool) (k : ℕ) → count_below f k ≤ k
unfolding count_below
count_below-le f zero = omega arith
count_below-le f (suc k) = let x = count_below-le f k in let y = cond-le (f k) 1 0 1 (omega arith) (omega arith) in omega arith

pub count_below_mono : (f g : ℕ → Bool) (k : ℕ) → ((u : ℕ) → f u ≡ true → g u ≡ true) → count_below f k ≤ count_below g k
unfolding count_below
count_below_mono f g zero h = omega arith
count_below_mono f g (suc k) h = let x = count_below_mono f g k h in let y = one_mono (f k) (g k) (h k) in omega arith

pub count_below_strict : (f g : ℕ → Bool) (k v : ℕ) → ((u : ℕ) → f u ≡ true → g u ≡ true) → v < k → f v ≡ false → g v ≡ true → count_below f k < count_below g k
unfolding count_below
count_below_strict f g zero v h q a b = absurd (omega arith)
count_below_strict f g (suc k) v h q a b = go (λ w. count_below_strict f g k v h w a b) (eqb v k) refl
  where
    go : (v < k → count_below f k < count_below g k) → (t : Bool) → eqb v k ≡ t → count_below f k + cond (f k) 1 0 < count_below g k + cond (g k) 1 0
    go r true e =
        let x = count_below_mono f g k h in
        let a' : f k ≡ false = rw (eqb-true v k e) at a in
        let b' : g k ≡ true = rw (eqb-true v k e) at b in
        rw (a', b') (omega arith)
    go r false e = let x = r (let z : v ≢ k = eqb-false v k e in omega arith) in let y = one_mono (f k) (g k) (h k) in omega arith

-- the numbers from a up to k
pub count_below-from : (a k : ℕ) → count_below (leb a) k ≤ k - a
unfolding count_below
count_below-from a zero = omega arith
count_below-from a (suc k) = go (leb a k) refl (count_below-from a k)
  where
    go : (t : Bool) → leb a k ≡ t → count_below (leb a) k ≤ k - a → count_below (leb a) k + cond t 1 0 ≤ suc k - a
    go true q r = let h = leb-true a k q in omega arith
    go false q r = omega arith

-- a list of numbers below n that has no repeat is no longer than n
pub length-count_below : (n : ℕ) (l : List ℕ) → repeats l ≡ false → ((a : ℕ) → Memᴰ a l → a < n) → length l ≤ count_below (λ (w : ℕ). member w l) n
length-count_below n [] r h = omega arith
length-count_below n (a ∷ l) r h =
    let (out, r') = or_no (member a l) (repeats l) r in
    let x = length-count_below n l r' (λ b m. h b (Memᴰ.tail m)) in
    let y = count_below_strict (λ (w : ℕ). member w l) (λ (w : ℕ). member w (a ∷ l)) n a (λ w e. rw e (or-true (eqb w a))) (h a (Memᴰ.head refl)) out (rw (eq-eqb a a refl)) in
    omega arith
