-- charted meets its contract.
use mathlib.Core.Path.{◌∙◌}
use Rattle.model.specs.File.{charted}
use Rattle.chart_points.specs.Charts.{chart_of_points}
use Rattle.sheet.specs.Sheets.{packed}
use Rattle.sheet.proofs.Made.{labels_fit}
use Rattle.sheet.proofs.Fitting.charted.Goals as goal

pub returns : goal.returns
returns c =
    let a = c.args.self.now in
    let p = c.bounded.ensures in
    let l = labels_fit a.sheet.now a.fits c.labels.ensures in
    c.charted.ensures ∙ λ i. packed (charted (p.plan i) (l i) (chart_of_points (p.n i) c.args.chart.now))
