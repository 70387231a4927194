-- The rings of a plan as they stand in a lent file, before anything is copied.
use Rattle.std.specs.Prelude.{ℕ, zero, suc, ◌+◌, ◌*◌, List, [], ◌∷◌, map, get_or}
use Rattle.lists.specs.Ranges.{from}
use Rattle.model.specs.Plan.{Plan}
use Rattle.model.specs.File.{entry_offset}

-- k numbers of two bytes from an offset on; what lies outside the file reads as 0
unfoldable pub words_at : List ℕ → ℕ → ℕ → List ℕ
words_at file at zero = []
words_at file at (suc k) = (get_or file at 0 + 256 * get_or file (at + 1) 0) ∷ words_at file (at + 2) k

-- where the body of u's ring stands, where the rings begin at these starts
unfoldable pub body_at : List ℕ → ℕ → ℕ
body_at starts u = entry_offset u (get_or starts u 0)

-- The plan of n contexts whose rings have these starts and sizes in a file
unfoldable pub plan_in_file : List ℕ → List ℕ → List ℕ → ℕ → Plan
plan_in_file starts sizes file n = record { rings = map (λ (u : ℕ). words_at file (body_at starts u) (get_or sizes u 0)) (from 0 n) }
