-- Points of the grid, the sides of a dart, and crossings. Nothing is negative: a signed number is a pair of sums, of which one is taken from the other.
-- Standard terms: a crossing counts a dart that the ray from a point to the right meets; the crossings of a closed walk are its winding number about the point.
use Rattle.std.specs.Prelude.{ℕ, ◌+◌, ◌*◌, ◌≤◌, ◌<◌, min, max, ◌≡◌, List, Bool, cond, ◌&&◌, ltb, leb}
use Rattle.std.specs.List.{list_all}
use Rattle.lists.specs.Parts.{cycle}

pub record Position : Type 0 where
  pub x : ℕ
  pub y : ℕ

-- The doubled area of the triangle a, b, c, counted positive if it is walked counterclockwise, is area_plus − area_minus
abbrev pub area_plus : Position → Position → Position → ℕ
area_plus a b c = a.x * b.y + b.x * c.y + c.x * a.y

abbrev pub area_minus : Position → Position → Position → ℕ
area_minus a b c = a.y * b.x + b.y * c.x + c.y * a.x

-- c is strictly left of the dart from a to b
abbrev pub Left : Position → Position → Position → Type 0
Left a b c = area_minus a b c < area_plus a b c

unfoldable pub strictly_left : Position → Position → Position → Bool
strictly_left a b c = ltb (area_minus a b c) (area_plus a b c)

-- c is on the line between a and b, ends included
pub record OnSegment (a b c : Position) : Type 0 where
  pub flat : area_plus a b c ≡ area_minus a b c
  pub x_from : min a.x b.x ≤ c.x
  pub x_to : c.x ≤ max a.x b.x
  pub y_from : min a.y b.y ≤ c.y
  pub y_to : c.y ≤ max a.y b.y

-- 1 if the dart from a to b crosses c's height upwards with c strictly on its left, else 0
unfoldable pub crossing : Position → Position → Position → ℕ
crossing c a b = cond (leb a.y c.y && ltb c.y b.y && strictly_left a b c) 1 0

-- c is strictly left of each dart of a closed walk
unfoldable pub inside : Position → List Position → Bool
inside c walk = list_all (λ (d : Position × Position). strictly_left d.0 d.1 c) (cycle walk)

-- s, e, n, w are the corners of an upright rectangle, and c is strictly inside it
pub record InBox (c s e n w : Position) : Type 0 where
  pub bottom : s.y ≡ e.y
  pub top : n.y ≡ w.y
  pub west : s.x ≡ w.x
  pub east : e.x ≡ n.x
  pub above : s.y < c.y
  pub under : c.y < n.y
  pub past : s.x < c.x
  pub short : c.x < e.x

-- the point d times as far out
abbrev pub scaled : ℕ → Position → Position
scaled d a = record { x = a.x * d; y = a.y * d }
