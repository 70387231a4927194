-- What the loop of settle keeps.
use Prim.Native.Nat.{◌-◌, ◌*◌}
use Rattle.rings.specs.Tables.{sum_of}
use Rattle.chart_solver.specs.Relaxing.{RaisedIn}
use Rattle.chart_solver.proofs.System.settle.Given as goal

abbrev pub invariant-loop-rose : goal.invariant-loop-rose
invariant-loop-rose l = RaisedIn l.self l.at

abbrev pub decreases-loop-rose : goal.decreases-loop-rose
decreases-loop-rose l = 200 * l.self.n - sum_of l.at
