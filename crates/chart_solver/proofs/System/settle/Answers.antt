-- settle meets its contract.
use mathlib.Core.Path.{refl, ap}
use Rattle.std.specs.Prelude.{Some}
use Rattle.chart_solver.proofs.Relax.{fewer, solved-none, solved-found}
use Rattle.chart_solver.proofs.System.settle.Goals as goal

pub returns-then-not-rose : goal.returns-then-not-rose
returns-then-not-rose c = let p = c.in-Some.ensures in solved-found c.args.self.now c.pass.new.at p.raised (p.still (ap Some c.if-not-rose.true))

pub loop-rose-smaller : goal.loop-rose-smaller
loop-rose-smaller c = let p = c.in-Some.ensures in fewer c.loop-rose.at p.raised (p.more (ap Some c.if-not-rose.false))

pub returns : goal.returns
returns c = let p = c.in_default.ensures in solved-none c.args.self.now p.raised.few (p.none refl)
