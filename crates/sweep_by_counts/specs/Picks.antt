-- The test of a pair of positions on the arrays of a course, and what the search finds.
use Rattle.std.specs.Prelude.{ℕ, ◌-◌, ◌<◌, ◌≡◌, List, Option, Some, None, Bool, not, ◌&&◌, get_or, take, eqb}
use Rattle.std.specs.List.{list_all}
use Rattle.lists.specs.Tests.{is_empty}
use Rattle.model.specs.Outcome.{Outcome, accepted, refused}
use Rattle.model.specs.Plan.{Plan, border}
use Rattle.model.specs.Sweep.{below, chordless}
use Rattle.sweep_theory.specs.Local.{positions_due}
use Rattle.sweep_by_counts.specs.declared.course.Course.{Course}
use Rattle.sweep_by_counts.specs.declared.pick.Found.{Found}

-- c may be on the list l of i and j, by the marks and the counters of a course
unfoldable pub fair_on : Course → ℕ → ℕ → List ℕ → ℕ → Bool
fair_on v i j l c = not (border c) && (eqb (get_or v.frontier.marks c 0) 0 && eqb (get_or v.counts c 0) (positions_due i j l c))

-- l may be the list of i and j, by the same
unfoldable pub good_on : Course → Plan → ℕ → ℕ → List ℕ → Bool
good_on v p i j l = not (is_empty l) && (list_all (fair_on v i j l) l && chordless p l)

-- the pair that a step takes, or 14
unfoldable pub picked_as : Option Found → Outcome (ℕ × ℕ)
picked_as (Some d) = accepted (d.i, d.j)
picked_as None = refused 14 0

-- what is below the position before j stands in the front of the array
pub record Lists (p : Plan) (f array : List ℕ) (d : Found) : Type 0 where
  pub few : d.q < 256
  pub same : take d.q array ≡ below p f (d.j - 1)

-- the same of what is found, where something is
abbrev pub Listed : Plan → List ℕ → List ℕ → Option Found → Type 0
Listed p f array (Some d) = Lists p f array d
Listed p f array None = Unit {0}
