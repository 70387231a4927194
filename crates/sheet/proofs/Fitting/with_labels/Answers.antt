-- with_labels meets its contract.
use mathlib.Core.Path.{ap, ◌∙◌}
use lib.ListN.{take}
use Rattle.model.specs.Plan.{Plan}
use Rattle.model.specs.File.{labelled}
use Rattle.sheet.specs.Sheets.{packed}
use Rattle.sheet.proofs.Reading.{total-held}
use Rattle.sheet.proofs.Made.{with_labels}
use Rattle.sheet.proofs.Fitting.with_labels.Goals as goal

pub returns : goal.returns
returns c =
    let a = c.args.self.now in
    let s = a.sheet.now in
    let l = take c.min.result c.args.labels.now in
    with_labels s a.fits c.args.labels.now c.labelled.result (total-held s a.fits c.from.ensures c.total_of-total.ensures.value) c.min.ensures
    (c.labelled.ensures ∙ ap (λ (p : Plan). packed (labelled p (take 1186 l))) c.bounded.ensures.plan)
