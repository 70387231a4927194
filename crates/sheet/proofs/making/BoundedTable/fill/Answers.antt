-- fill meets its contract.
use Rattle.sheet.proofs.Made.{filled}
use Rattle.sheet.proofs.making.BoundedTable.fill.Goals as goal

pub returns : goal.returns
returns c =
    let t = c.args.self.now in
    filled t.table.sizes.now t.table.entries.now t.table.n t.few t.room c.args.stage c.args.labels.now c.args.sheet.now c.requires c.total_of.ensures.value c.min.ensures c.copy_first.ensures c.copy_first-2.ensures c.copy_first-3.ensures
