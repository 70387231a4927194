-- What the sweep has come to, step by step.
use Rattle.std.specs.Prelude.{ℕ, suc, min, ◌≡◌, List, length, cond}
use Rattle.model.specs.Outcome.{accepted, refused}
use Rattle.model.specs.Plan.{Plan}
use Rattle.model.specs.Sweep.{State, finished, finish, sweep_from}
use Rattle.sweep_labelling.specs.Labelling.{swept}
use Rattle.sweep_theory.specs.Counter.{pick_by}
use Rattle.sweep_theory.specs.Ready.{Ready}
use Rattle.sweep_by_counts.specs.declared.course.Course.{Course}
use Rattle.sweep_by_counts.specs.declared.pick.Found.{Found}
use Rattle.sweep_by_counts.specs.Courses.{HoldsState}
use Rattle.sweep_by_counts.specs.Picks.{Lists}

-- with k steps to go at most, the next looked for below the limit
pub record RunningBelow (p : Plan) (k limit : ℕ) (v : Course) : Type 0 where
  pub state : State
  pub counters : List ℕ
  pub holds : HoldsState p state counters v
  pub ready : Ready p limit counters state
  pub same : swept p ≡ sweep_from p k state

-- with a step that is found below the limit, its list in the front of an array, and k more at most
pub record TakesFound (p : Plan) (k : ℕ) (v : Course) (array : List ℕ) (d : Found) : Type 0 where
  pub limit : ℕ
  pub running : RunningBelow p (suc k) limit v
  pub picked : pick_by running.counters p running.state (min limit (length running.state.frontier)) ≡ accepted (d.i, d.j)
  pub lists : Lists p running.state.frontier array d

-- with no step that can be taken
pub record Settles (p : Plan) (v : Course) : Type 0 where
  pub state : State
  pub counters : List ℕ
  pub holds : HoldsState p state counters v
  pub same : swept p ≡ cond (finished p state.frontier) (accepted (finish p state)) (refused 14 0)
