-- The steps of the sweep as the engine takes them: what is told of one, and what they have come to.
use Rattle.std.specs.Prelude.{ℕ, ◌+◌, ◌≤◌, ◌<◌, ◌≡◌, List, Option, MatchOption, true}
use Rattle.model.specs.Plan.{Plan}
use Rattle.model.specs.Sweep.{State, eligible, advance, sweep_from}
use Rattle.sweep_frontier.specs.declared.Frontier as held
use Rattle.sweep_frontier.specs.Frontiers.{whole}
use Rattle.sweep_frontier.specs.Held.{HoldsFrontier}
use Rattle.sweep_labelling.specs.Labelling.{Labelled, swept}

-- what a step of positions i and j gives: there is a new frontier, and it and the labels hold the next state
abbrev pub Taken : Plan → State → ℕ → ℕ → List ℕ → Option held.Frontier → Type 0
Taken p s i j ls r = MatchOption r ⊥ (λ (next : held.Frontier). HoldsFrontier (advance p s i j) (whole next) × Labelled p (advance p s i j) ls)

-- it does so for each state that the frontier and the labels hold, where the pair is eligible
abbrev pub Takes : Plan → held.Frontier → List ℕ → ℕ → ℕ → List ℕ → Option held.Frontier → Type 0
Takes p v old i j new r = (s : State) → HoldsFrontier s (whole v) → Labelled p s old → i + 2 ≤ j → j < v.len → eligible p s i j ≡ true → Taken p s i j new r

-- what the sweep has come to, with k steps to go
pub record Running (p : Plan) (k : ℕ) (v : held.Frontier) (ls : List ℕ) : Type 0 where
  pub state : State
  pub front : HoldsFrontier state (whole v)
  pub labels : Labelled p state ls
  pub same : swept p ≡ sweep_from p k state
