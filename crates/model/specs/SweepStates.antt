-- What the sweep does, as statements and not as a search: the pair that a step takes, the states that are reached, and how the sweep ends.
use Rattle.std.specs.Prelude.{ℕ, ◌+◌, ◌≤◌, ◌<◌, ◌≡◌, ◌⊎◌, List, true, false, length}
use Rattle.model.specs.Outcome.{Outcome, accepted, refused}
use Rattle.model.specs.Plan.{Plan}
use Rattle.model.specs.Sweep.{State, first_state, finished, finish, eligible, advance}

-- Frontier positions i and j, j at least i + 2
pub record Positions (s : State) (i j : ℕ) : Type 0 where
  pub apart : i + 2 ≤ j
  pub inside : j < length s.frontier

-- No pair is eligible
abbrev pub NoneEligible : Plan → State → Type 0
NoneEligible p s = (i j : ℕ) → Positions s i j → eligible p s i j ≡ false

-- Of the eligible pairs i, j is that with the largest j, then with the largest i
pub record Chosen (p : Plan) (s : State) (i j : ℕ) : Type 0 where
  pub positions : Positions s i j
  pub fits : eligible p s i j ≡ true
  pub largest : (i' j' : ℕ) → Positions s i' j' → eligible p s i' j' ≡ true → (j' < j) ⊎ ((j' ≡ j) × (i' ≤ i))

-- The states that the sweep passes through
pub data Reached (p : Plan) : State → Type 0 where
  first : Reached p (first_state p)
  further : (s : State) (i j : ℕ) → Reached p s → finished p s.frontier ≡ false → Chosen p s i j → Reached p (advance p s i j)

-- Finished: a state is reached in which every inner frontier context has South alone below
pub record Finished (p : Plan) (s : State) : Type 0 where
  pub reached : Reached p s
  pub over : finished p s.frontier ≡ true

-- Stuck: a state is reached that is not finished, and no pair is eligible
pub record Stuck (p : Plan) (s : State) : Type 0 where
  pub reached : Reached p s
  pub unfinished : finished p s.frontier ≡ false
  pub none : NoneEligible p s

-- The two ways in which the sweep ends
abbrev pub Ends : Plan → Outcome (List ℕ) → Type 0
Ends p o = ((s : State) × Finished p s × (o ≡ accepted (finish p s))) ⊎ ((s : State) × Stuck p s × (o ≡ refused 14 0))
