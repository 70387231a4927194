-- What it means that a chart draws its plan: its inner faces tile the rectangle.
use Rattle.std.specs.Prelude.{◌*◌, ◌<◌, ◌≡◌, true, false, pos}
use mathlib.Core.List.{Memᴰ}
use Rattle.lists.specs.Tests.{tally}
use Rattle.model.specs.Plan.{Plan, Face, faces}
use Rattle.model.specs.Chart.{Chart}
use Rattle.model.specs.Geometry.{Point, positive, area, areas, in_rectangle, on_some_line, in_face}
use Rattle.plan_theory.specs.InnerFaces.{InnerFaces}

-- A chart c draws a plan p, whose inner faces are `faces p`
pub record Draws (p : Plan) (c : Chart) : Type 0 where
  -- Every inner face has positive doubled area.
  pub each_positive : (f : Face) → Memᴰ f (faces p) → positive (area c f) ≡ true
  -- These areas sum to 2 × width × height.
  pub areas_sum : areas c (faces p) ≡ pos (2 * c.w * c.h)
  -- Every point with rational coordinates that is strictly inside the rectangle and on no line lies strictly inside exactly one inner face.
  pub one_face : (t : Point) → 0 < t.d → in_rectangle c t ≡ true → on_some_line c p t ≡ false → tally (in_face c t) (faces p) ≡ 1
  -- These three-dart walks are the inner faces, walked counterclockwise: `faces p` has each of them exactly once.
  pub inner_faces : InnerFaces p (faces p)
