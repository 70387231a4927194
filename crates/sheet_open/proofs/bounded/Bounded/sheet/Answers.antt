-- sheet meets its contract.
use mathlib.Core.Path.{sym, ap, ◌∙◌}
use Rattle.file_framing.specs.Layouts.{plan_in, label_bytes_at, sheet_at, laid}
use Rattle.file_framing.specs.declared.layout.PartOffsets.{PartOffsets}
use Rattle.sheet.specs.Sheets.{packed}
use Rattle.sheet_open.proofs.Opened.{labelled_there}
use Rattle.sheet_open.proofs.bounded.Bounded.sheet.Goals as goal

pub returns-in-Labels : goal.returns-in-Labels
unfolding laid
returns-in-Labels c =
    let b = c.args.self.now.file.now in
    let l = c.args.self.now.layout.now in
    let k = c.labels.ensures in
    labelled_there b l.sizes l.n l.few c.labels.result.now (label_bytes_at b (plan_in b l.sizes l.n) c.in-Labels.labels) c.entries-entries.ensures k.fits k.there c.labelled.ensures
    ∙ ap (λ (g : PartOffsets). packed (sheet_at b l.n (plan_in b l.sizes l.n) g)) (sym c.in-Labels.is)
