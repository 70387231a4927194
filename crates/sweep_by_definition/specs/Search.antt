-- The search for a pair of positions: what it begins with, and what is said of the pairs that it has tried.
use Rattle.std.specs.Prelude.{ℕ, ◌-◌, ◌≤◌, ◌≡◌, List, ◌++◌, map, Option, Some, None, MatchOption, Bool, true, false}
use Rattle.lists.specs.Ranges.{countdown}
use Rattle.model.specs.Outcome.{Outcome, accepted, refused}
use Rattle.model.specs.Plan.{Plan}
use Rattle.model.specs.Sweep.{State, eligible, choose}
use Rattle.rings.specs.Tables.{plan_of}
use Rattle.sweep_frontier.specs.declared.below.FrontierView as held
use Rattle.sweep_frontier.specs.Frontiers.{frontier_of}
use Rattle.sweep_frontier.specs.Held.{EntriesBelow200, HoldsFrontier}

-- the pair that a step takes, or 14
unfoldable pub found_as : Option (ℕ × ℕ) → Outcome (ℕ × ℕ)
found_as (Some pair) = accepted pair
found_as None = refused 14 0

-- what a step begins with: entries below 200, and the frontier of a state, of m contexts, with these marks
abbrev pub Begins : held.FrontierView → ℕ → List ℕ → State → Type 0
Begins g m marks s = EntriesBelow200 (plan_of g.located.rings) × HoldsFrontier s (frontier_of true m g.f.now marks)

-- what is told of positions i and j: whether they are eligible, or that neither they are nor a smaller i with this j
abbrev pub Tested : Plan → State → ℕ → ℕ → Option Bool → Type 0
Tested p s i j r = MatchOption r ((a : ℕ) → a ≤ i → eligible p s a j ≡ false) (λ (b : Bool). b ≡ eligible p s i j)

-- the pairs of this j with the n smallest i, the largest i first
abbrev pub pair_row : ℕ → ℕ → List (ℕ × ℕ)
pair_row j n = map (λ (i : ℕ). (i, j)) (countdown n)

-- what is taken of the pairs with this j and any others after them: that with this i, or where there is none what is taken of the others
abbrev pub Best : Plan → State → ℕ → Option ℕ → Type 0
Best p s j r = (others : List (ℕ × ℕ)) → MatchOption r (choose p s (pair_row j (j - 1) ++ others) ≡ choose p s others) (λ (i : ℕ). choose p s (pair_row j (j - 1) ++ others) ≡ accepted (i, j))
