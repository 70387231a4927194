-- Doubled area of a triangle from the coordinates of its corners, and which way round it is walked.
use Rattle.std.specs.Prelude.{ℕ, ◌+◌, ◌*◌, List, Bool, true, false, ℤ, pos, negsuc, ◌-ℤ◌, ◌*ℤ◌, eqb, ltb, get_or}
use Rattle.std.proofs.Math.IntN.{sub_ℕ}
use Rattle.model.specs.Chart.{Chart}

-- the points alone of a chart
unfoldable pub points_only : List ℕ → List ℕ → Chart
points_only xs ys = record { w = 0; h = 0; xs = xs; ys = ys }

-- the signed number is below 0
abbrev pub negative : ℤ → Bool
negative (pos k) = false
negative (negsuc k) = true

-- The difference of the signed products of coordinate differences, as the model's corner has it
unfoldable pub corner_at : ℕ → ℕ → ℕ → ℕ → ℕ → ℕ → ℤ
corner_at ax ay bx by cx cy = sub_ℕ bx ax *ℤ sub_ℕ cy ay -ℤ sub_ℕ cx ax *ℤ sub_ℕ by ay

-- the products that count for a counterclockwise walk of a, b, c, and those that count against it
unfoldable pub corner_plus : ℕ → ℕ → ℕ → ℕ → ℕ → ℕ → ℕ
corner_plus ax ay bx by cx cy = ax * by + bx * cy + cx * ay

unfoldable pub corner_minus : ℕ → ℕ → ℕ → ℕ → ℕ → ℕ → ℕ
corner_minus ax ay bx by cx cy = bx * ay + cx * by + ax * cy

-- The walk from a to b to c is counterclockwise, flat or clockwise
unfoldable pub counterclockwise : ℕ → ℕ → ℕ → ℕ → ℕ → ℕ → Bool
counterclockwise ax ay bx by cx cy = ltb (corner_minus ax ay bx by cx cy) (corner_plus ax ay bx by cx cy)

unfoldable pub flat : ℕ → ℕ → ℕ → ℕ → ℕ → ℕ → Bool
flat ax ay bx by cx cy = eqb (corner_minus ax ay bx by cx cy) (corner_plus ax ay bx by cx cy)

unfoldable pub clockwise : ℕ → ℕ → ℕ → ℕ → ℕ → ℕ → Bool
clockwise ax ay bx by cx cy = ltb (corner_plus ax ay bx by cx cy) (corner_minus ax ay bx by cx cy)

-- the same of the walk over the points of contexts a, b, c
abbrev pub at_points : (ℕ → ℕ → ℕ → ℕ → ℕ → ℕ → Bool) → List ℕ → List ℕ → ℕ → ℕ → ℕ → Bool
at_points walked xs ys a b c = walked (get_or xs a 0) (get_or ys a 0) (get_or xs b 0) (get_or ys b 0) (get_or xs c 0) (get_or ys c 0)
