-- The list of a pair of positions and the frontier with it in place, on arrays: what the functions of src/ compute.
use Rattle.std.specs.Prelude.{ℕ, ◌-◌, List, ◌++◌, fold, Bool, true, false, cond, not, get_or, set, eqb, ltb}
use Rattle.lists.specs.Tests.{is_empty}
use Rattle.lists.specs.Folds.{through}
use Rattle.lists.specs.Spans.{span}
use Rattle.model.specs.Plan.{Plan}
use Rattle.model.specs.Sweep.{below}
use Rattle.sweep_frontier.specs.Frontiers.{Frontier, frontier_of, pushed}

-- the frontier, failed
unfoldable pub failed : Frontier → Frontier
failed v = frontier_of false v.len v.at v.marks

-- c is the last of the first len contexts
unfoldable pub last_is : List ℕ → ℕ → ℕ → Bool
last_is at len c = cond (eqb len 0) false (eqb c (get_or at (len - 1) 0))

-- c is a border context, or is or was on the frontier, or is on the list
unfoldable pub excluded : List ℕ → ℕ → Bool
excluded marks c = cond (ltb c 4) true (not (eqb (get_or marks c 0) 0))

-- the frontier with c marked
unfoldable pub with_mark : Frontier → ℕ → Frontier
with_mark v c = frontier_of v.ok v.len v.at (set v.marks c 1)

-- the list with c at its end, unless it stands there; it fails where c may not be on the list
unfoldable pub added : Frontier → ℕ → Frontier
added v c = cond (last_is v.at v.len c) v (cond (excluded v.marks c) (failed v) (with_mark (pushed v c) c))

-- the list with what is below position k, unless it failed before; it fails where nothing is
unfoldable pub below_added : Plan → List ℕ → ℕ → Frontier → Frontier
below_added p f k v = cond v.ok (cond (is_empty (below p f k)) (failed v) (fold added v (below p f k))) v

-- the list with what is below positions a to j − 1
unfoldable pub listing : Plan → List ℕ → ℕ → ℕ → Frontier → Frontier
listing p f a j v = through (below_added p f) a j v

-- the new frontier with, at its end, the frontier f of m contexts with the list l of q in place of positions a to j − 1
unfoldable pub frontier_replaced : Frontier → List ℕ → ℕ → ℕ → ℕ → List ℕ → ℕ → Frontier
frontier_replaced v f m a j l q = fold pushed v (span f 0 a ++ span l 0 q ++ span f j m)
