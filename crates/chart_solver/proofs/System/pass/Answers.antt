-- pass meets its contract.
use Rattle.chart_solver.proofs.Relax.{passed_end}
use Rattle.chart_solver.proofs.System.pass.Goals as goal

pub returns : goal.returns
returns c = passed_end c.loop-i.invariant c.loop-i-test.false
