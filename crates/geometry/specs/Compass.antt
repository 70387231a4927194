-- Compass labels: the quadrant that each names, and the angle of a corner in quarters.
use Rattle.std.specs.Prelude.{ℕ, zero, suc, ◌+◌, ◌-◌, ◌%◌, ◌≤◌, ◌<◌}
use mathlib.Core.List.{List, Memᴰ}
use Rattle.lists.specs.Parts.{cycle}
use Rattle.geometry.specs.Points.{Position}

-- The dart from a to b keeps the compass rule of a label: 0 up, 1 right, 2 down, 3 left. Each names a quadrant with one of its two sides.
abbrev pub Heads : ℕ → Position → Position → Type 0
Heads zero a b = (a.x ≤ b.x) × (a.y < b.y)
Heads (suc zero) a b = (a.x < b.x) × (b.y ≤ a.y)
Heads (suc (suc zero)) a b = (b.x ≤ a.x) × (b.y < a.y)
Heads (suc (suc (suc zero))) a b = (b.x < a.x) × (a.y ≤ b.y)
Heads (suc (suc (suc (suc l)))) a b = Unit {0}

-- Where a walk arrives by a dart with label l and leaves by one with label k: the quarters, clockwise, from the way back to the way on
unfoldable pub angle : ℕ → ℕ → ℕ
angle l k = (k + 6 - l) % 4

-- A closed walk of placed and labelled darts that turns back by at most a quarter at each corner
module _ {A : Type 0} (label : A × A → ℕ) (at : A → Position) where
  pub record Turning (walk : List A) : Type 0 where
    pub labelled : (d : A × A) → Memᴰ d (cycle walk) → label d < 4
    pub heads : (d : A × A) → Memᴰ d (cycle walk) → Heads (label d) (at d.0) (at d.1)
    pub corners : (c : (A × A) × (A × A)) → Memᴰ c (cycle (cycle walk)) → angle (label c.0) (label c.1) ≤ 1
