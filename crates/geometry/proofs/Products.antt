-- Two ways to compare numbers, and the sign of a product of differences.
use Prim.Native.Nat.{ℕ, ◌+◌, ◌*◌, ◌-◌, ◌≤◌, ◌<◌}
use mathlib.Core.Path.{◌≡◌, subst}
use native.Mathlib.Omega.{arith}
use native.Mathlib.Nat.{mul-add, add-mul, mul_comm, mul_left_comm, mul_assoc}

pub weak : {a b : ℕ} → a < b → a ≤ b
weak h = omega arith

-- sums of sorted products: `simp poly (omega arith)` proves an identity between polynomials
pub ruleset poly = (mul-add, add-mul, mul_comm, mul_left_comm, mul_assoc)

-- (b − a) × (d − c) is not negative
from_gaps : (a k c l : ℕ) → a * (c + l) + (a + k) * c ≤ a * c + (a + k) * (c + l)
from_gaps a k c l = omega arith

pub product_le : {a b c d : ℕ} → a ≤ b → c ≤ d → a * d + b * c ≤ a * c + b * d
product_le {a} {b} {c} {d} h k =
    subst (λ (w : ℕ). a * w + b * c ≤ a * c + b * w) (gap k)
    (subst (λ (w : ℕ). a * (c + (d - c)) + w * c ≤ a * c + w * (c + (d - c))) (gap h) (from_gaps a (b - a) c (d - c)))
  where
    gap : {m n : ℕ} → m ≤ n → m + (n - m) ≡ n
    gap h = omega arith

-- it is positive
pub product_lt : {a b c d : ℕ} → a < b → c < d → a * d + b * c < a * c + b * d
product_lt h k = omega (arith, product_le h k)
