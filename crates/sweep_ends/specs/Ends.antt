-- Where the sweep begins and where it ends, on arrays: what the functions of src/ compute.
use Rattle.std.specs.Prelude.{ℕ, suc, ◌-◌, List, [], ◌∷◌, Bool, not, length, get_or, set}
use Rattle.lists.specs.Tests.{same_list}
use Rattle.lists.specs.Folds.{through, each_down, some_within}
use Rattle.lists.specs.Spans.{zeros}
use Rattle.model.specs.Plan.{Plan, ring, south}
use Rattle.model.specs.Sweep.{below}
use Rattle.sweep_frontier.specs.Frontiers.{Frontier, frontier_of, pushed, empty_frontier}

-- ---- the first frontier
-- West, North's inner neighbours from West's side to East's, East
unfoldable pub first_contexts : Plan → Frontier
first_contexts p = let r = ring p 0 in pushed (each_down (λ t v. pushed v (get_or r (suc t) 0)) (length r - 2) (pushed (empty_frontier (zeros 256)) 3)) 1

-- a mark for each of the first m contexts of f
unfoldable pub marked : List ℕ → ℕ → List ℕ
marked f m = through (λ k on. set on (get_or f k 0) 1) 0 m (zeros 256)

-- the first frontier, all its contexts marked
unfoldable pub first_frontier : Plan → Frontier
first_frontier p = let v = first_contexts p in frontier_of v.ok v.len v.at (marked v.at v.len)

-- ---- whether it is finished
-- some inner context of a frontier of m has more than South below
unfoldable pub unfinished : Plan → List ℕ → ℕ → Bool
unfinished p f m = some_within (λ k. not (same_list (below p f k) (south ∷ []))) 1 (m - 1)
