-- chart meets its contract.
use mathlib.Core.Path.{sym, ap, ◌∙◌}
use Rattle.model.specs.Outcome.{accepted}
use Rattle.model.specs.Plan.{context_count}
use Rattle.chart_points.specs.Charts.{chart_on}
use Rattle.chart_placement.proofs.Draw.{drawn_reads}
use Rattle.sheet.specs.Sheets.{rank}
use Rattle.sheet.proofs.Reading.{fitting_reached, count_held}
use Rattle.sheet.proofs.Charts.{chart-call-stored}
use Rattle.sheet_updates.proofs.chart.Goals as goal

pub returns : goal.returns
unfolding rank
returns c =
    let s = c.args.sheet in
    let p = c.in_ok-fitting in
    let f = p.fitting.sheet.now in
    let k = c.points.ensures in
    let reached = fitting_reached s 2 c.require_fitting.result c.require_fitting.ensures.answer p.fitting p.was in
    let drawn = (λ i. accepted (chart_on f.n (k.w i) (k.h i) (k.xs i) (k.ys i))) ∙ drawn_reads _ _ c.in_ok-drawn.ensures (sym (ap context_count c.fit.ensures.plan ∙ count_held f)) in
    chart-call-stored s c.points.result c.charted.ensures p.ensures.lent drawn reached c.fit.ensures.plan c.labels.ensures
