-- A plan that its table of successors tells to be sound: a quick test, which only plans that keep the rules 4, 5, 6, 8 and 9 pass.
use Rattle.std.specs.Prelude.{ℕ, ◌+◌, ◌-◌, List, [], ◌∷◌, Bool, false, not, ◌&&◌, ◌||◌, length, get_or, eqb, leb}
use Rattle.lists.specs.Ranges.{lowest}
use Rattle.lists.specs.Folds.{some_within}
use Rattle.model.specs.Plan.{Plan, context_count, ring, outer, bad_border}
use Rattle.ring_successors.specs.Successors.{Noted, cell_at, successors_of, apart}

-- by a table, the dart from u to v is in doubt, where w stands before v in u's ring: v is u, or the dart is not outer and w does not come after u in v's ring
unfoldable pub unconfirmed : List ℕ → ℕ → ℕ → ℕ → Bool
unconfirmed t u w v = eqb u v || (not (eqb (get_or t (cell_at v u) 0) (w + 1)) && not (outer (u, v)))

-- some dart from u to the entries of a list is in doubt, where w stands before them in u's ring
unfoldable pub some_unconfirmed : List ℕ → ℕ → ℕ → List ℕ → Bool
some_unconfirmed t u w [] = false
some_unconfirmed t u w (v ∷ l) = unconfirmed t u w v || some_unconfirmed t u v l

-- some dart that leaves u is in doubt; before the first entry of u's ring stands the last
unfoldable pub has_unconfirmed : List ℕ → Plan → ℕ → Bool
has_unconfirmed t p u = let r = ring p u in some_unconfirmed t u (get_or r (length r - 1) 0) r

-- by a table and whether every entry has a cell of its own in it: every entry has, and no dart is in doubt
unfoldable pub confirmed : Noted → Plan → Bool
confirmed s p = s.1 && not (some_within (has_unconfirmed s.0 p) 0 (context_count p))

-- the plan has at most 200 contexts, it keeps rule 8, every entry of its rings has a cell of its own in its table, and no dart is in doubt
unfoldable pub sound : Plan → Bool
sound p = leb (context_count p) 200 && leb 4 (lowest (bad_border p) 4) && confirmed (successors_of p, apart p) p
