-- Whether the first frontier has a chord, told by marks: a mark for each of its contexts, and for no other.
use Rattle.std.specs.Prelude.{ℕ, suc, ◌-◌, List, Bool, not, ◌&&◌, get_or, eqb}
use Rattle.std.specs.List.{list_any}
use Rattle.lists.specs.Folds.{some_within}
use Rattle.model.specs.Plan.{Plan, ring}

-- w is marked, and neither l nor r
unfoldable pub stray : List ℕ → ℕ → ℕ → ℕ → Bool
stray marks l r w = not (eqb (get_or marks w 0) 0) && (not (eqb w l) && not (eqb w r))

-- u's ring has such a context
unfoldable pub lists_stray : Plan → List ℕ → ℕ → ℕ → ℕ → Bool
lists_stray p marks u l r = list_any (stray marks l r) (ring p u)

-- so has the ring of the context at k of a frontier, for the contexts beside it
unfoldable pub chord_at : Plan → List ℕ → List ℕ → ℕ → Bool
chord_at p marks f k = lists_stray p marks (get_or f k 0) (get_or f (k - 1) 0) (get_or f (suc k) 0)

-- so has that of one of its m contexts
unfoldable pub chorded : Plan → List ℕ → List ℕ → ℕ → Bool
chorded p marks f m = some_within (chord_at p marks f) 0 m
