-- lift meets its contract.
use mathlib.Core.Path.{refl, ap, ◌∙◌}
use Rattle.std.specs.Prelude.{max, get_or}
use Rattle.chart_solver.proofs.Relax.{lifted}
use Rattle.chart_solver.proofs.System.lift.Goals as goal

pub returns : goal.returns
returns c =
    let there = c.in-Some.ensures.lookup in
    let high = max (get_or c.args.at.now c.from-high.result 0) in
    lifted c.args.self.now c.args.k c.requires there.3.0 (there.3.1 _) c.from-high.ensures c.due.ensures.value refl c.if-high-self.false (c.max.ensures ∙ ap high c.min-due.ensures)
