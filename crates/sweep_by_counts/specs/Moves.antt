-- A step of the sweep on the arrays of a course: what it needs, and what they hold then.
use Rattle.std.specs.Prelude.{ℕ, ◌+◌, ◌<◌, ◌≤◌, ◌≡◌, List, ◌++◌, true, length, take, drop}
use Rattle.lists.specs.Spans.{zero_padded}
use Rattle.model.specs.Plan.{Plan}
use Rattle.model.specs.Sweep.{State, listed, eligible, advance}
use Rattle.sweep_theory.specs.Counter.{counted}
use Rattle.sweep_by_counts.specs.declared.course.Course.{Course}
use Rattle.sweep_by_counts.specs.Courses.{HoldsState}

-- the course holds the state s with the counters cnt, positions i and j are eligible there, and l is their list
pub record Steps (p : Plan) (s : State) (cnt : List ℕ) (v : Course) (l : List ℕ) (i j : ℕ) : Type 0 where
  pub holds : HoldsState p s cnt v
  pub apart : i + 2 ≤ j
  pub inside : j < length s.frontier
  pub fits : eligible p s i j ≡ true
  pub list : l ≡ listed p s.frontier i j

-- from the course old to the course new by the step of positions i and j, with their list l
pub record Moved (p : Plan) (old new : Course) (l : List ℕ) (i j : ℕ) : Type 0 where
  pub so : (s : State) (cnt : List ℕ) → Steps p s cnt old l i j → HoldsState p (advance p s i j) (counted p l cnt) new

-- the array old holds a frontier of m contexts; new holds the same with l in place of positions a to j − 1, and that has len contexts
pub record Spliced (old new : List ℕ) (m a j : ℕ) (l : List ℕ) (len : ℕ) : Type 0 where
  pub at : (f : List ℕ) → old ≡ zero_padded 512 f → length f ≡ m → new ≡ zero_padded 512 (take a f ++ l ++ drop j f)
  pub size : (f : List ℕ) → old ≡ zero_padded 512 f → length f ≡ m → len ≡ length (take a f ++ l ++ drop j f)
