-- charted meets its contract.
use Rattle.rings.specs.Tables.{table_of}
use Rattle.file_framing.specs.Layouts.{plan_in, label_bytes_at}
use Rattle.sheet_open.proofs.Opened.{charted_parts}
use Rattle.sheet_open.proofs.bounded.Bounded.charted.Goals as goal

pub returns : goal.returns
returns c =
    let b = c.args.self.now.file.now in
    let l = c.args.self.now.layout.now in
    let k = c.labels.ensures in
    let ls = label_bytes_at b (plan_in b l.sizes l.n) c.args.labels in
    charted_parts b l.sizes l.n l.few (table_of c.args.plan.now.table) c.labels.result.now ls c.args.chart c.requires.same k.fits k.there c.word_at.ensures c.word_at-2.ensures c.words-xs.ensures c.words-ys.ensures c.charted.ensures
