-- with_context meets its contract.
use borrow.Author.Rules.{rules}
use Rattle.rings.specs.Tables.{plan_of}
use Rattle.rings.proofs.Rows.{ring-size}
use Rattle.chart_areas.specs.Corners.{points_only}
use Rattle.chart_audit.proofs.Counts.{around}
use Rattle.chart_audit.proofs.PlacedPlan.with_context.Goals as goal

pub returns : goal.returns
returns c =
    let s = c.args.self.now in
    let k = points_only s.points.xs.now s.points.ys.now in
    around (plan_of s.rings) k c.args.u c.fold.ensures.ran (search (rules, ring-size)) (λ all i areas q e. search rules)
