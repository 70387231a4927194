-- A chart in flat arrays.
use Rattle.std.specs.Prelude.{ℕ, List}
use Rattle.lists.specs.Spans.{stretch}
use Rattle.model.specs.Chart.{Chart}
use Rattle.chart_points.specs.declared.Points.{Points}

-- the chart of n contexts that numbers and arrays hold; what lies outside an array reads as 0
unfoldable pub chart_on : ℕ → ℕ → ℕ → List ℕ → List ℕ → Chart
chart_on n w h xs ys = record { w = w; h = h; xs = stretch xs 0 n; ys = stretch ys 0 n }

-- the chart of n contexts that the points hold
abbrev pub chart_of_points : ℕ → Points → Chart
chart_of_points n p = chart_on n p.w p.h p.xs.now p.ys.now
