-- chart_part meets its contract.
use Rattle.sheet_rules.proofs.Rules.{compared}
use Rattle.sheet_rules.proofs.chart_part.Goals as goal

pub returns-then-same_chart : goal.returns-then-same_chart
returns-then-same_chart c =
    let s = c.args.fitting.now.sheet.now in
    let d = c.in_ok-drawn in
    let k = c.points-2.ensures in
    compared s d.drawn c.points.result c.points-2.result d.ensures c.fit.ensures.plan c.labels.ensures c.from-n.ensures c.points.ensures.chart (k.w, k.h, k.xs, k.ys) c.if-same_chart.ensures

pub returns-else-same_chart : goal.returns-else-same_chart
returns-else-same_chart c =
    let s = c.args.fitting.now.sheet.now in
    let d = c.in_ok-drawn in
    let k = c.points-2.ensures in
    compared s d.drawn c.points.result c.points-2.result d.ensures c.fit.ensures.plan c.labels.ensures c.from-n.ensures c.points.ensures.chart (k.w, k.h, k.xs, k.ys) c.if-same_chart.ensures
