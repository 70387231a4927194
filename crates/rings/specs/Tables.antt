-- A plan in flat arrays: the size of each ring, and the entries of all rings in context order.
use Rattle.std.specs.Prelude.{ℕ, ◌+◌, ◌*◌, List, [], ◌∷◌, map, cond, ◌&&◌, get_or, take, ltb, Option, Some, None}
use Rattle.lists.specs.Ranges.{from}
use Rattle.lists.specs.Spans.{stretch}
use Rattle.model.specs.Plan.{Plan}
use Rattle.rings.specs.declared.Table as tables
use Rattle.rings.specs.declared.Rings as rings

-- the sum of a list
unfoldable pub sum_of : List ℕ → ℕ
sum_of [] = 0
sum_of (k ∷ ks) = k + sum_of ks

-- where u's ring begins among the entries: after the rings before it
unfoldable pub start_of : List ℕ → ℕ → ℕ
start_of sizes u = sum_of (take u sizes)

-- the starts of 200 rings
unfoldable pub starts_of : List ℕ → List ℕ
starts_of sizes = map (start_of sizes) (from 0 200)

-- the size of u's ring; past the last context it is 0
unfoldable pub size_of : List ℕ → ℕ → ℕ → ℕ
size_of sizes n u = cond (ltb u n) (get_or sizes u 0) 0

-- the plan of n contexts whose rings begin at these starts and have these sizes; what lies outside the entries reads as 0
unfoldable pub rows : List ℕ → List ℕ → List ℕ → ℕ → Plan
rows starts sizes es n = record { rings = map (λ (u : ℕ). stretch es (get_or starts u 0) (get_or sizes u 0)) (from 0 n) }

-- The plan of n contexts that sizes and entries hold
unfoldable pub table : List ℕ → List ℕ → ℕ → Plan
table sizes es n = rows (starts_of sizes) sizes es n

-- the plan of a table
abbrev pub table_of : tables.Table → Plan
table_of t = table t.sizes.now t.entries.now t.n

-- the plan of rings in flat arrays
abbrev pub plan_of : rings.Rings → Plan
plan_of r = rows r.starts.now r.sizes.now r.entries.now r.n

-- the cell of the pair u, v in a table of 200 rows of 200; none where there is no room for it
unfoldable pub cell : ℕ → ℕ → Option ℕ
cell u v = cond (ltb u 200 && ltb v 200) (Some (200 * u + v)) None
