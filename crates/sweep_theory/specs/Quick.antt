-- Which pairs of positions need a trial: with each position j one i alone, and after a step only j below a limit.
use Rattle.std.specs.Prelude.{ℕ, zero, suc, ◌+◌, ◌-◌, List, Bool, cond, not, ◌&&◌, length, eqb, ltb, leb}
use Rattle.lists.specs.Ranges.{first_from}
use Rattle.model.specs.Plan.{Plan}
use Rattle.model.specs.Sweep.{State, below, listed, advance}

-- one context alone is below position k
unfoldable pub single : Plan → List ℕ → ℕ → Bool
single p f k = eqb (length (below p f k)) 1

-- the highest position up to k that has not one context below, or else 0
unfoldable pub candidate_from : Plan → List ℕ → ℕ → ℕ
candidate_from p f zero = zero
candidate_from p f (suc k) = let lower = candidate_from p f k in cond (single p f (suc k)) lower (suc k)

-- the only i that may be eligible with j and be the largest
unfoldable pub candidate : Plan → List ℕ → ℕ → ℕ
candidate p f j = candidate_from p f (j - 2)

-- j is two or more, and East's position or one that has not one context below
unfoldable pub open_at : Plan → List ℕ → ℕ → Bool
open_at p f j = leb 2 j && not (ltb (suc j) (length f) && single p f j)

-- where the context at j stands after the step of i and j
unfoldable pub landing : Plan → State → ℕ → ℕ → ℕ
landing p s i j = suc i + length (listed p s.frontier i j)

-- from position k on, the first that has not one context below, or the length
unfoldable pub reach : Plan → List ℕ → ℕ → ℕ
reach p f k = first_from (λ (t : ℕ). not (single p f t)) k (length f - k)

-- after the step of i and j no pair is eligible with this j or a larger one
unfoldable pub resume : Plan → State → ℕ → ℕ → ℕ
resume p s i j = suc (suc (reach p (advance p s i j).frontier (landing p s i j)))
