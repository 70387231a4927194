-- The doubled areas of the inner faces of a chart, counted one after another in words of 64 bits.
use Rattle.std.specs.Prelude.{ℕ, ◌+◌, ◌%◌, ◌^◌, cond, ◌&&◌, List, [], ◌∷◌, ℤ, pos, nat_lt, Some, None, unwrap_or}
use Rattle.std.specs.Int.{w64, int_min, int_wrapping_add}
use Rattle.model.specs.Plan.{Plan, Face, step, walk, on_inner_face, faces}
use Rattle.model.specs.Chart.{Chart}
use Rattle.model.specs.Geometry.{positive, area}
use Rattle.chart_audit.specs.declared.Areas.{Areas}

-- no face
unfoldable pub no_area : Areas
no_area = record { faces = 0; positive = 0; least = None; sum = pos 0 }

-- one more face, of this signed area
unfoldable pub with_area : ℤ → Areas → Areas
with_area a s = record {
  faces = (s.faces + 1) % 2 ^ 64;
  positive = (s.positive + cond (positive a) 1 0) % 2 ^ 64;
  least = Some (int_min (unwrap_or s.least a) a);
  sum = int_wrapping_add w64 s.sum a;
}

-- more faces of a chart, one after another
unfoldable pub with_faces : Chart → List Face → Areas → Areas
with_faces k [] s = s
with_faces k (f ∷ fs) s = with_faces k fs (with_area (area k f) s)

-- the inner face whose walk begins with the dart from a to v, where a is its lowest context
unfoldable pub faces_on : Plan → ℕ → ℕ → List Face
faces_on p a v = cond (on_inner_face p (a, v) && nat_lt a v && nat_lt a (step p (a, v)).1) (walk p (a, v) ∷ []) []

-- All inner faces of a plan and its chart
unfoldable pub surveyed : Plan → Chart → Areas
surveyed p k = with_faces k (faces p) no_area
