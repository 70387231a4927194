-- areas meets its contract.
use borrow.Author.Rules.{rules}
use mathlib.Core.Path.{refl, sym}
use Rattle.rings.specs.Tables.{plan_of}
use Rattle.rings.proofs.Rows.{count-rows}
use Rattle.chart_areas.specs.Corners.{points_only}
use Rattle.chart_audit.specs.Surveys.{no_area}
use Rattle.chart_audit.proofs.Counts.{across}
use Rattle.chart_audit.proofs.PlacedPlan.areas.Goals as goal

pub returns : goal.returns
unfolding no_area
returns c =
    let s = c.args.self.now in
    let k = points_only s.points.xs.now s.points.ys.now in
    across (plan_of s.rings) k c.fold.ensures.ran (sym (count-rows s.rings.starts.now s.rings.sizes.now s.rings.entries.now s.rings.n)) refl (λ all u areas q e. search rules)
