-- solve meets its contract.
use mathlib.Core.Path.{refl, ap}
use Rattle.std.specs.Prelude.{drop}
use Rattle.chart_solver.specs.Constraints.{constraints_in}
use Rattle.chart_solver.specs.Solved.{kept_at}
use Rattle.chart_solver.proofs.Relax.{raised-start, solved_large, settled-kept}
use Rattle.chart_solver.proofs.solve.Goals as goal

pub returns-then-n-gt200 : goal.returns-then-n-gt200
returns-then-n-gt200 c = ap (kept_at (constraints_in (drop c.args.behind c.args.constraints.now))) (solved_large c.args.n (constraints_in c.args.constraints.now) c.if-n-gt200.true)

pub first_pass-requires : goal.first_pass-requires
first_pass-requires c = raised-start c.if-n-gt200.false refl

pub returns-then-all_met : goal.returns-then-all_met
returns-then-all_met c = settled-kept (record { n = c.args.n; constraints = c.args.constraints }) c.first_pass.new.at c.args.behind c.first_pass.ensures c.if-all_met.ensures
