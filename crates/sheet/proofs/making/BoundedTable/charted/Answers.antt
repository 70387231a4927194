-- charted meets its contract.
use lib.ListN.{take}
use Rattle.sheet.proofs.Made.{charted}
use Rattle.sheet.proofs.making.BoundedTable.charted.Goals as goal

pub returns : goal.returns
returns c =
    let t = c.args.self.now in
    let p = c.args.chart.now in
    charted t.table.sizes.now t.table.entries.now t.table.n t.few (take 1186 c.args.labels.now) c.fill.new.sheet p.w p.h p.xs.now p.ys.now c.fill.ensures c.copy_first.ensures c.copy_first-2.ensures
