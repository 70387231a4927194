-- The table of successors of a plan: which context comes after each entry of each ring, for rings and entries below 200; and look-ups in it.
-- A ring is noted from its last entry to its first, so that of equal entries the first one counts.
use Rattle.std.specs.Prelude.{ℕ, suc, min, List, [], ◌∷◌, Bool, true, cond, ◌&&◌, get_or, set, eqb}
use Rattle.lists.specs.Folds.{through}
use Rattle.lists.specs.Spans.{zeros}
use Rattle.model.specs.Plan.{Plan, context_count, ring}
pub use Rattle.ring_positions.specs.Positions.{cell_at, has_cell}

-- one more than a context, in a byte; 255 for every context from 254 on
unfoldable pub successor_mark : ℕ → ℕ
successor_mark v = suc (min v 254)

-- a table, and whether every entry that was noted has a cell and found it 0
abbrev pub Noted : Type 0
Noted = List ℕ × Bool

-- x noted for v in u's ring
unfoldable pub note_at : ℕ → ℕ → ℕ → Noted → Noted
note_at u v x s = (cond (has_cell u v) (set s.0 (cell_at u v) x) s.0, has_cell u v && eqb (get_or s.0 (cell_at u v) 0) 0 && s.1)

-- for each entry of u's ring the mark of the entry after it; z comes after the last
unfoldable pub note_ring : ℕ → ℕ → List ℕ → Noted → Noted
note_ring u z [] s = s
note_ring u z (v ∷ l) s = note_at u v (successor_mark (get_or l 0 z)) (note_ring u z l s)

-- the same for the first 200 rings of a plan, each closing on itself
unfoldable pub note_rings : Plan → Noted → Noted
note_rings p s = through (λ (u : ℕ). note_ring u (get_or (ring p u) 0 0) (ring p u)) 0 (min (context_count p) 200) s

-- the table of successors
unfoldable pub successors_of : Plan → List ℕ
successors_of p = (note_rings p (zeros 40000, true)).0

-- every entry of those rings has a cell of its own
unfoldable pub apart : Plan → Bool
apart p = (note_rings p (zeros 40000, true)).1

-- what a table says of v in u's ring: 0 where it says nothing
unfoldable pub successor : List ℕ → ℕ → ℕ → ℕ
successor t u v = cond (has_cell u v) (get_or t (cell_at u v) 0) 0
