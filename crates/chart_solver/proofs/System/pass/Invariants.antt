-- What the loop of pass keeps.
use Rattle.chart_solver.specs.Relaxing.{Passing}
use Rattle.chart_solver.proofs.System.pass.Given as goal

abbrev pub invariant-loop-i : goal.invariant-loop-i
invariant-loop-i l = Passing l.self l.back l.initial.at l.at l.i l.rose
