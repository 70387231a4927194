-- What the loop of follow keeps.
use Rattle.chart_solver.specs.Relaxing.{RaisedIn}
use Rattle.chart_solver.proofs.first.Order.follow.Given as goal

abbrev pub invariant-loop : goal.invariant-loop
invariant-loop g l = RaisedIn l.system l.at
