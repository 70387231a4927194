-- What the loop of pick keeps.
use Prim.Native.Nat.{ℕ, ◌≤◌, min}
use mathlib.Core.List.{List}
use lib.ListN.{length}
use Rattle.model.specs.Sweep.{State}
use Rattle.rings.specs.Tables.{plan_of}
use Rattle.sweep_by_counts.specs.Courses.{HoldsState}
use Rattle.sweep_by_counts.proofs.Picked.{Picking}
use Rattle.sweep_by_counts.proofs.pick.View.pick.Given as goal

abbrev pub invariant-loop-j : goal.invariant-loop-j
invariant-loop-j l = (l.j ≤ 512) × ((s : State) (cnt : List ℕ) → HoldsState (plan_of l.self.located.rings) s cnt l.self.course.now → Picking cnt (plan_of l.self.located.rings) s (min l.limit (length s.frontier)) l.j)

abbrev pub decreases-loop-j : goal.decreases-loop-j
decreases-loop-j l = l.j
