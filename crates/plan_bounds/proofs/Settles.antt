-- The highest of some entries, and what it settles.
use Prim.Native.Nat.{ℕ, zero, suc, ◌-◌, ◌≤◌, ◌<◌, min, max}
use mathlib.Core.Path.{◌≡◌, refl, sym, ap, ◌∙◌}
use mathlib.Core.List.{List, [], ◌∷◌}
use mathlib.Core.Bool.{Bool, true, false, ◌||◌}
use native.Mathlib.Omega.{arith}
use lib.ListN.{length, get_or, take}
use lib.Dec.{leb}
use borrow.Author.Tests.{le-leb, lt-leb, leb-true, leb-false}
use Rattle.std.specs.List.{fold, list_any}
use Rattle.std.proofs.lemmas.List.{take_min}
use Rattle.lists.specs.Spans.{stretch, span}
use Rattle.lists.proofs.Stretches.{stretch-behind}
use Rattle.model.specs.Plan.{neighbour}
use Rattle.plan_bounds.specs.Fits.{out_of_range}

-- ---- entries that are there, and those that read as 0
-- none of what reads as 0 is higher
highest_past : (i k a : ℕ) → a ≡ fold max a (stretch [] i k)
unfolding stretch
highest_past i zero a = refl
highest_past i (suc k) a = let e : a ≡ max a 0 = omega arith in highest_past (suc i) k a ∙ ap (λ (b : ℕ). fold max b (stretch [] (suc i) k)) e

-- of the first k entries those that are there settle the highest
highest_there : (l : List ℕ) (k a : ℕ) → fold max a (take k l) ≡ fold max a (stretch l 0 k)
unfolding stretch
highest_there [] zero a = refl
highest_there [] (suc k) a = highest_past 0 (suc k) a
highest_there (x ∷ l) zero a = refl
highest_there (x ∷ l) (suc k) a = highest_there l k (max a x) ∙ ap (fold max (max a x)) (sym (stretch-behind (x ∷ []) l 0 k))

-- what is given by `fold` over the entries that are there
pub highest_is : (l : List ℕ) (k : ℕ) {m r : ℕ} → m ≡ min k (length l) → r ≡ fold max 0 (take m l) → r ≡ fold max 0 (span l 0 k)
highest_is l k {m} e ran =
    let z : k ≡ k - 0 = omega arith in
    ran ∙ ap (λ (j : ℕ). fold max 0 (take j l)) e ∙ ap (fold max 0) (take_min k l) ∙ highest_there l k 0 ∙ ap (λ (j : ℕ). fold max 0 (stretch l 0 j)) z

-- ---- what the highest settles
-- the higher of two numbers reaches n where one of them does
higher_reaches : (n a b : ℕ) (r : Bool) → (leb n (max a b) || r) ≡ (leb n a || (leb n b || r))
higher_reaches n a b r = go (leb n a) refl (leb n b) refl
  where
    go : (s : Bool) → leb n a ≡ s → (t : Bool) → leb n b ≡ t → (leb n (max a b) || r) ≡ (s || (t || r))
    go true p t q = let h = leb-true n a p in rw (le-leb n (max a b) (omega arith))
    go false p true q = let h = leb-true n b q in rw (le-leb n (max a b) (omega arith))
    go false p false q = let h = leb-false n a p in let k = leb-false n b q in rw (lt-leb n (max a b) (omega arith))

-- the highest of a and some entries reaches n where a does or an entry is out of range
highest_reaches : (n a : ℕ) (l : List ℕ) → leb n (fold max a l) ≡ (leb n a || list_any (out_of_range n) l)
unfolding out_of_range neighbour
highest_reaches n a [] = go (leb n a)
  where
    go : (b : Bool) → b ≡ (b || false)
    go true = refl
    go false = refl
highest_reaches n a (x ∷ l) = highest_reaches n (max a x) l ∙ higher_reaches n a x (list_any (out_of_range n) l)

-- where there are entries, one is out of range exactly if the highest is
pub highest_settles : (l : List ℕ) (n : ℕ) {k e h : ℕ} → 0 < k → e ≡ neighbour h → h ≡ fold max 0 (span l 0 k) → leb n e ≡ list_any (out_of_range n) (span l 0 k)
unfolding stretch out_of_range neighbour
highest_settles l n {k} some e h = ap (leb n) (e ∙ h) ∙ go (k - 0) (omega arith)
  where
    go : (j : ℕ) → 0 < j → leb n (fold max 0 (stretch l 0 j)) ≡ list_any (out_of_range n) (stretch l 0 j)
    go zero b = absurd (omega arith)
    go (suc j) b =
        let first : max 0 (get_or l 0 0) ≡ get_or l 0 0 = omega arith in
        highest_reaches n (max 0 (get_or l 0 0)) (stretch l 1 j) ∙ ap (λ (a : ℕ). leb n a || list_any (out_of_range n) (stretch l 1 j)) first

-- of no entries none is out of range
pub none_out_of_range : (l : List ℕ) (n : ℕ) {k : ℕ} → k ≤ 0 → false ≡ list_any (out_of_range n) (span l 0 k)
unfolding stretch
none_out_of_range l n {k} none = go (k - 0) (omega arith)
  where
    go : (j : ℕ) → j ≡ 0 → false ≡ list_any (out_of_range n) (stretch l 0 j)
    go zero b = refl
    go (suc j) b = absurd (omega arith)
