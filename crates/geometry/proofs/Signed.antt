-- Signed numbers as differences of natural ones.
use Prim.Native.Nat.{ℕ, zero, suc, ◌+◌, ◌*◌, ◌-◌}
use mathlib.Core.Path.{◌≡◌, refl, ap}
use mathlib.Core.Bool.{Bool, true, false, cond}
use native.Mathlib.Omega.{arith}
use lib.IntN.{ℤ, pos, negsuc, sub_ℕ, neg_ℤ, ◌+ℤ◌, ◌-ℤ◌, ◌*ℤ◌}
use lib.Dec.{ltb}
use borrow.Author.Tests.{ltb-true, ltb-false}
use Rattle.geometry.specs.Points.{Position, area_plus, area_minus}

abbrev pub Difference : ℤ → ℕ → ℕ → Type 0
Difference (pos k) a b = a ≡ b + k
Difference (negsuc k) a b = b ≡ a + suc k

-- z is a − b
pub record Says (z : ℤ) (a b : ℕ) : Type 0 where
  pub is : Difference z a b

-- so it is any other pair's difference that is the same
pub says_as : {z : ℤ} {a b c d : ℕ} → Says z a b → a + d ≡ c + b → Says z c d
says_as {z} {a} {b} {c} {d} h e = record { is = go z h.is }
  where
    go : (z : ℤ) → Difference z a b → Difference z c d
    go (pos k) h = omega arith
    go (negsuc k) h = omega arith

pub says-zero : (a : ℕ) → Says (pos 0) a a
says-zero a = record { is = omega arith }

pub says_minus : (a b : ℕ) → Says (sub_ℕ a b) a b
says_minus a b = record { is = go (ltb a b) refl }
  where
    go : (t : Bool) → ltb a b ≡ t → Difference (cond t (negsuc (b - suc a)) (pos (a - b))) a b
    go true e = let h = ltb-true a b e in omega arith
    go false e = let h = ltb-false a b e in omega arith

pub says-sum : {z w : ℤ} {a b c d : ℕ} → Says z a b → Says w c d → Says (z +ℤ w) (a + c) (b + d)
says-sum {z} {w} {a} {b} {c} {d} h k = go z w h.is k.is
  where
    go : (z w : ℤ) → Difference z a b → Difference w c d → Says (z +ℤ w) (a + c) (b + d)
    go (pos i) (pos j) h k = record { is = omega arith }
    go (pos i) (negsuc j) h k = says_as (says_minus i (suc j)) (omega arith)
    go (negsuc i) (pos j) h k = says_as (says_minus j (suc i)) (omega arith)
    go (negsuc i) (negsuc j) h k = record { is = omega arith }

says-negative : {z : ℤ} {a b : ℕ} → Says z a b → Says (neg_ℤ z) b a
says-negative {z} {a} {b} h = record { is = go z h.is }
  where
    go : (z : ℤ) → Difference z a b → Difference (neg_ℤ z) b a
    go (pos zero) h = omega arith
    go (pos (suc k)) h = h
    go (negsuc k) h = h

says-product : {z w : ℤ} {a b c d : ℕ} → Says z a b → Says w c d → Says (z *ℤ w) (a * c + b * d) (a * d + b * c)
says-product {z} {w} {a} {b} {c} {d} h k = go z w h.is k.is
  where
    go : (z w : ℤ) → Difference z a b → Difference w c d → Says (z *ℤ w) (a * c + b * d) (a * d + b * c)
    go (pos i) (pos j) h k = record { is = rw (h, k) (omega arith) }
    go (pos i) (negsuc j) h k = says-negative {z = pos (i * suc j)} (record { is = rw (h, k) (omega arith) })
    go (negsuc i) (pos j) h k = says-negative {z = pos (suc i * j)} (record { is = rw (h, k) (omega arith) })
    go (negsuc i) (negsuc j) h k = record { is = rw (h, k) (omega arith) }

-- the difference, where it is a number k
pub says_pos : {z : ℤ} {a b : ℕ} (k : ℕ) → Says z a b → a ≡ b + k → z ≡ pos k
says_pos {z} {a} {b} k h e = go z h.is
  where
    go : (z : ℤ) → Difference z a b → z ≡ pos k
    go (pos j) h = ap pos (omega arith)
    go (negsuc j) h = absurd (omega arith)

-- A doubled area, as a signed difference of products of coordinate differences, is area_plus − area_minus
pub says-area : (a b c : Position) → Says (sub_ℕ b.x a.x *ℤ sub_ℕ c.y a.y -ℤ sub_ℕ c.x a.x *ℤ sub_ℕ b.y a.y) (area_plus a b c) (area_minus a b c)
says-area a b c =
    says_as
    (says-sum (says-product (says_minus b.x a.x) (says_minus c.y a.y)) (says-negative (says-product (says_minus c.x a.x) (says_minus b.y a.y))))
    (omega arith)
