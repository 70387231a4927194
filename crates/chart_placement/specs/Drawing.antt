-- A chart in arrays, and the test that the border contexts stand at its corners.
use Rattle.std.specs.Prelude.{ℕ, List, Bool, ◌&&◌, get_or, eqb}
use Rattle.lists.specs.Spans.{zero_padded}
use Rattle.model.specs.Outcome.{Outcome, accepted, require, ◌>>◌}
use Rattle.model.specs.Plan.{north, east, south, west}
use Rattle.model.specs.Chart.{Chart}
use Rattle.chart_placement.specs.declared.Drawn.{Drawn}

-- A chart in arrays, with zeros after its numbers
unfoldable pub drawn_of : Chart → Drawn
drawn_of c = record { w = c.w; h = c.h; xs = zero_padded 200 c.xs; ys = zero_padded 200 c.ys }

-- the context u stands at a, b
unfoldable pub stands_at : List ℕ → List ℕ → ℕ → ℕ → ℕ → Bool
stands_at xs ys u a b = eqb (get_or xs u 0) a && eqb (get_or ys u 0) b

-- the border contexts stand at the corners: South at (0,0), West above it, East level with it and below North
unfoldable pub has_corners : List ℕ → List ℕ → Bool
has_corners xs ys = stands_at xs ys south 0 0 && stands_at xs ys west 0 (get_or ys north 0) && stands_at xs ys east (get_or xs north 0) 0

-- the numbers of these arrays, with North at the width and the height
unfoldable pub drawn_at : List ℕ → List ℕ → Drawn
drawn_at xs ys = record { w = get_or xs north 0; h = get_or ys north 0; xs = xs; ys = ys }

-- so where the border contexts stand at the corners; else 11
abbrev pub in_corners : List ℕ → List ℕ → Outcome Drawn
in_corners xs ys = require (has_corners xs ys) 11 0 >> accepted (drawn_at xs ys)
