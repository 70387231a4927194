-- What the arrays of a sweep on its way hold: a state of the model's sweep, and its counters.
use Rattle.std.specs.Prelude.{ℕ, ◌<◌, ◌≤◌, ◌≡◌, List, length, get_or, min}
use mathlib.Core.List.{Memᴰ}
use Rattle.model.specs.Plan.{Plan, context_count, ring}
use Rattle.model.specs.Sweep.{State}
use Rattle.sweep_frontier.specs.Held.{HoldsFrontier}
use Rattle.sweep_frontier.specs.Frontiers.{whole}
use Rattle.sweep_labelling.specs.Labelling.{Labelled}
use Rattle.sweep_by_counts.specs.declared.course.Course.{Course}

-- the array holds the counters, each as the most that 16 bits hold where it is more
pub record CountersIn (counts cnt : List ℕ) : Type 0 where
  pub size : length counts ≡ 256
  pub few : length cnt ≤ 256
  pub count : (c : ℕ) → c < length cnt → get_or counts c 0 ≡ min (get_or cnt c 0) 65535

-- the course holds the state s with the counters cnt, one for each context; every ring entry is a context
pub record HoldsState (p : Plan) (s : State) (cnt : List ℕ) (v : Course) : Type 0 where
  pub front : HoldsFrontier s (whole v.frontier)
  pub counts : CountersIn v.counts cnt
  pub all : length cnt ≡ context_count p
  pub inside : (u a : ℕ) → Memᴰ a (ring p u) → a < context_count p
  pub labels : Labelled p s v.labels
