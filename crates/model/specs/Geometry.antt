-- Areas, lines and points of a chart.
use Rattle.std.specs.Prelude.{ℕ, zero, suc, ◌*◌, min, max, List, [], ◌∷◌, Bool, true, false, ◌&&◌, ℤ, pos, negsuc, ◌+ℤ◌, ◌-ℤ◌, ◌*ℤ◌, ltb, leb}
use Rattle.std.proofs.Math.IntN.{sub_ℕ}
use Rattle.std.specs.List.{list_any, list_all}
use Rattle.lists.specs.Parts.{cycle}
use Rattle.model.specs.Plan.{Plan, Dart, Face, darts}
use Rattle.model.specs.Chart.{Chart, x, y}

-- the signed number is above 0
abbrev pub positive : ℤ → Bool
positive (pos zero) = false
positive (pos (suc k)) = true
positive (negsuc k) = false

-- the signed number is 0
abbrev pub is_zero : ℤ → Bool
is_zero (pos zero) = true
is_zero (pos (suc k)) = false
is_zero (negsuc k) = false

-- Doubled area of the triangle a, b, c, signed: positive for a counterclockwise walk
unfoldable pub corner : Chart → ℕ → ℕ → ℕ → ℤ
corner k a b c = sub_ℕ (x k b) (x k a) *ℤ sub_ℕ (y k c) (y k a) -ℤ sub_ℕ (x k c) (x k a) *ℤ sub_ℕ (y k b) (y k a)

-- doubled area of the walk that begins with a and b: the triangles that it makes with a
unfoldable pub fan : Chart → ℕ → ℕ → List ℕ → ℤ
fan k a b [] = pos 0
fan k a b (c ∷ f) = corner k a b c +ℤ fan k a c f

-- Doubled area of a face
unfoldable pub area : Chart → Face → ℤ
area k [] = pos 0
area k (a ∷ []) = pos 0
area k (a ∷ b ∷ f) = fan k a b f

-- the sum of the doubled areas
unfoldable pub areas : Chart → List Face → ℤ
areas k [] = pos 0
areas k (f ∷ fs) = area k f +ℤ areas k fs

-- The point (p/d, q/d), d above 0; a chart is compared with it after multiplying by d
pub record Point : Type 0 where
  pub p : ℕ
  pub q : ℕ
  pub d : ℕ

-- doubled area of the triangle that a dart's ends make with the point, after multiplying by d
unfoldable pub side : Chart → Point → Dart → ℤ
side k t e =
    let ax = x k e.0 * t.d in
    let ay = y k e.0 * t.d in
    sub_ℕ (x k e.1 * t.d) ax *ℤ sub_ℕ t.q ay -ℤ sub_ℕ t.p ax *ℤ sub_ℕ (y k e.1 * t.d) ay

-- the point is strictly left of the dart
unfoldable pub is_left : Chart → Point → Dart → Bool
is_left k t e = positive (side k t e)

-- k lies between a and b, ends included
abbrev pub spans : ℕ → ℕ → ℕ → Bool
spans a b k = leb (min a b) k && leb k (max a b)

-- the point is on the line between a dart's ends, ends included
unfoldable pub on_line : Chart → Point → Dart → Bool
on_line k t e =
    is_zero (side k t e)
    && spans (x k e.0 * t.d) (x k e.1 * t.d) t.p && spans (y k e.0 * t.d) (y k e.1 * t.d) t.q

-- the point is on some line of the plan
unfoldable pub on_some_line : Chart → Plan → Point → Bool
on_some_line k p t = list_any (on_line k t) (darts p)

-- the point is strictly inside the rectangle from (0,0) to (w,h)
unfoldable pub in_rectangle : Chart → Point → Bool
in_rectangle k t = ltb 0 t.p && ltb t.p (k.w * t.d) && ltb 0 t.q && ltb t.q (k.h * t.d)

-- the point is strictly inside an inner face: strictly left of each dart of the face's walk
unfoldable pub in_face : Chart → Point → Face → Bool
in_face k t f = list_all (is_left k t) (cycle f)

-- who unfolds this unfolds all of the above: for facts that are computed
unfoldable pub geometry_computes : Unit {0}
unfolding corner fan area areas side is_left on_line on_some_line in_rectangle in_face
geometry_computes = tt
