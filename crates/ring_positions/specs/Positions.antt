-- The table of positions of a plan: where each entry stands in each ring, for rings and entries below 200.
use Rattle.std.specs.Prelude.{ℕ, suc, ◌+◌, ◌*◌, ◌/◌, ◌%◌, ◌<◌, ◌≡◌, List, map, Bool, cond, ◌&&◌, get_or, set, length, eqb, ltb}
use Rattle.lists.specs.Tests.{member}
use Rattle.lists.specs.Ranges.{from}
use Rattle.lists.specs.Parts.{index_of}
use Rattle.model.specs.Plan.{Plan, ring}

-- one more than v's first index in a ring; 0 where v is not in it
unfoldable pub position : ℕ → List ℕ → ℕ
position v r = cond (member v r) (suc (index_of v r)) 0

-- the cell of the table in which the position of v in u's ring stands
abbrev pub cell_at : ℕ → ℕ → ℕ
cell_at u v = 200 * u + v

-- the table of positions
unfoldable pub positions_of : Plan → List ℕ
positions_of p = map (λ (k : ℕ). position (k % 200) (ring p (k / 200))) (from 0 40000)

-- the table has a cell for v in u's ring
abbrev pub has_cell : ℕ → ℕ → Bool
has_cell u v = ltb u 200 && ltb v 200

-- a number noted for v in u's ring, where there is a cell and it is still 0
unfoldable pub noted : List ℕ → ℕ → ℕ → ℕ → List ℕ
noted t u v x = cond (has_cell u v && eqb (get_or t (cell_at u v) 0) 0) (set t (cell_at u v) x) t

-- y, where x is 0
unfoldable pub over : ℕ → ℕ → ℕ
over x y = cond (eqb x 0) y x

-- a table of any length whose cells that are 0 take the plan's positions
unfoldable pub positions_filled : Plan → List ℕ → List ℕ
positions_filled p t = map (λ (k : ℕ). over (get_or t k 0) (get_or (positions_of p) k 0)) (from 0 (length t))

-- The law of a table: in the cell of a ring below 200 and an entry below 200 the entry's position stands; past its end a table reads 0
abbrev pub Finds : List ℕ → Plan → Type 0
Finds t p = (u v : ℕ) → u < 200 → v < 200 → get_or t (cell_at u v) 0 ≡ position v (ring p u)
