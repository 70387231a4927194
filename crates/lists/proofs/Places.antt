-- Where an entry stands in a list of numbers.
use Prim.Native.Nat.{ℕ, zero, suc, ◌<◌}
use mathlib.Core.Path.{◌≡◌, refl, sym, ap}
use mathlib.Core.List.Memᴰ
use mathlib.Core.List.{List, [], ◌∷◌, Memᴰ}
use mathlib.Core.Bool.{Bool, true, false, cond}
use native.Mathlib.Omega.{arith}
use lib.ListN.{length, get_or}
use lib.Dec.{eqb}
use borrow.Author.Tests.{eqb-true, eqb-false, eq-eqb}
use Rattle.lists.specs.Parts.{index_of}
use Rattle.lists.proofs.Once.{Once}

module _ {A : Type 0} where
  pub mem-at : (l : List A) (i : ℕ) (z : A) → i < length l → Memᴰ (get_or l i z) l
  mem-at [] i z h = absurd (omega arith)
  mem-at (a ∷ l) zero z h = Memᴰ.head refl
  mem-at (a ∷ l) (suc i) z h = Memᴰ.tail (mem-at l i z (omega arith))

  -- inside the list the default does not matter
  pub get_d_any : (l : List A) (i : ℕ) (a b : A) → i < length l → get_or l i a ≡ get_or l i b
  get_d_any [] i a b h = absurd (omega arith)
  get_d_any (c ∷ l) zero a b h = refl
  get_d_any (c ∷ l) (suc i) a b h = get_d_any l i a b (omega arith)

pub index_below : (a : ℕ) (l : List ℕ) → Memᴰ a l → index_of a l < length l
index_below a [] i = elim i [ ]
index_below a (b ∷ l) i = go (eqb a b) refl i (index_below a l)
  where
    go : (t : Bool) → eqb a b ≡ t → Memᴰ a (b ∷ l) → (Memᴰ a l → index_of a l < length l) → cond t 0 (suc (index_of a l)) < suc (length l)
    go true e i r = omega arith
    go false e (Memᴰ.head q) r = absurd (eqb-false a b e q)
    go false e (Memᴰ.tail j) r = omega (arith, r j)

pub index_is : (a : ℕ) (l : List ℕ) (z : ℕ) → Memᴰ a l → get_or l (index_of a l) z ≡ a
index_is a [] z i = elim i [ ]
index_is a (b ∷ l) z i = go (eqb a b) refl i (index_is a l z)
  where
    go : (t : Bool) → eqb a b ≡ t → Memᴰ a (b ∷ l) → (Memᴰ a l → get_or l (index_of a l) z ≡ a) → get_or (b ∷ l) (cond t 0 (suc (index_of a l))) z ≡ a
    go true e i r = sym (eqb-true a b e)
    go false e (Memᴰ.head q) r = absurd (eqb-false a b e q)
    go false e (Memᴰ.tail j) r = r j

pub index_at : (l : List ℕ) (k z : ℕ) → Once l → k < length l → index_of (get_or l k z) l ≡ k
index_at [] k z h q = absurd (omega arith)
index_at (b ∷ l) zero z h q = rw (eq-eqb b b refl)
index_at (b ∷ l) (suc k) z h q = go (eqb (get_or l k z) b) refl (index_at l k z h.1 (omega arith))
  where
    go : (t : Bool) → eqb (get_or l k z) b ≡ t → index_of (get_or l k z) l ≡ k → cond t 0 (suc (index_of (get_or l k z) l)) ≡ suc k
    go true e r = absurd (h.0 (Memᴰ.cast (sym (eqb-true (get_or l k z) b e)) (mem-at l k z (omega arith))))
    go false e r = ap suc r
