-- The sheet struct and the sheet that it holds: what a struct reads as, and the struct that a sheet is packed into.
use Rattle.std.specs.Prelude.{ℕ, List, [], map, Bool, cond, length}
use Rattle.lists.specs.Parts.{flatten}
use Rattle.lists.specs.Spans.{stretch, zero_padded}
use Rattle.model.specs.Plan.{Plan}
use Rattle.model.specs.Chart.{Chart}
use Rattle.model.specs.File as file
use Rattle.rings.specs.Tables.{start_of, table}
use Rattle.plan_bounds.specs.Fits.{fit}
use Rattle.sheet.specs.declared.Sheet.{Sheet}
use Rattle.sheet.specs.declared.Stage.{Stage}
use Rattle.sheet.specs.declared.Stage.TheVariants.{Empty, Open, Labelled, Charted}

-- how many entries the rings of a struct have
unfoldable pub held_count : Sheet → ℕ
held_count s = start_of s.sizes s.n

-- the plan that a struct holds
unfoldable pub held_plan : Sheet → Plan
held_plan s = table s.sizes s.entries s.n

-- the labels that a struct holds, one for each entry
unfoldable pub held_labels : Sheet → List ℕ
held_labels s = stretch s.labels 0 (held_count s)

-- the chart that a struct holds
unfoldable pub held_chart : Sheet → Chart
held_chart s = record { w = s.w; h = s.h; xs = stretch s.xs 0 s.n; ys = stretch s.ys 0 s.n }

-- the sheet that a struct holds at a stage
unfoldable pub held_sheet : Stage → Sheet → file.Sheet
held_sheet Empty s = file.fresh
held_sheet Open s = file.opened (held_plan s)
held_sheet Labelled s = file.labelled (held_plan s) (held_labels s)
held_sheet Charted s = file.charted (held_plan s) (held_labels s) (held_chart s)

-- the plan fits: its rings into the arrays, and each entry is a context
unfoldable pub fits : Sheet → Bool
fits s = fit (held_plan s)

-- What a struct reads as. One whose plan does not fit, which no call leaves, reads as a fresh sheet.
unfoldable pub reads : Sheet → file.Sheet
reads s = cond (fits s) (held_sheet s.stage s) file.fresh

-- the stage that counts: EMPTY where the plan does not fit
unfoldable pub stage_read : Sheet → Stage
stage_read s = cond (fits s) s.stage Empty

-- the stages by number
unfoldable pub rank : Stage → ℕ
rank Empty = 0
rank Open = 1
rank Labelled = 2
rank Charted = 3

-- the struct with these parts, and zeros behind each
unfoldable pub pack : Stage → List (List ℕ) → List ℕ → Chart → Sheet
pack g rs ls c = record {
  stage = g;
  n = length rs;
  sizes = zero_padded 200 (map length rs);
  entries = zero_padded 1186 (flatten rs);
  labels = zero_padded 1186 ls;
  w = c.w;
  h = c.h;
  xs = zero_padded 200 c.xs;
  ys = zero_padded 200 c.ys;
}

-- no chart: all zero
unfoldable pub no_chart : Chart
no_chart = record { w = 0; h = 0; xs = []; ys = [] }

-- The struct that a sheet is packed into
unfoldable pub packed : file.Sheet → Sheet
packed file.fresh = pack Empty [] [] no_chart
packed (file.opened p) = pack Open p.rings [] no_chart
packed (file.labelled p ls) = pack Labelled p.rings ls no_chart
packed (file.charted p ls c) = pack Charted p.rings ls c
