-- fill meets its contract.
use mathlib.Core.Path.{◌∙◌}
use mathlib.Core.Bool.{true}
use Rattle.lists.proofs.Folds.{folds_up_on, folds_up_end}
use Rattle.ring_successors.proofs.Notes.{paired, rows-noted}
use native.Mathlib.Omega.{arith}
use Rattle.ring_successors.proofs.fill.Goals as goal

pub loop-u-preserved : goal.loop-u-preserved
loop-u-preserved c =
    let l = c.loop-u in
    let n = c.note_ring-clear.ensures in
    (c.note_ring-clear.auto.table ∙ l.invariant.0, folds_up_on l.invariant.1 (omega arith) (paired n.table_after n.value))

pub returns-clause-table_after : goal.returns-clause-table_after
returns-clause-table_after c =
    let r = c.args.rings.now in
    (rows-noted r.starts.now r.sizes.now r.entries.now r.n (c.args.table.now, true) c.min-m.ensures (folds_up_end c.loop-u.invariant.1 (omega arith))).0

pub returns-clause-value : goal.returns-clause-value
returns-clause-value c =
    let r = c.args.rings.now in
    (rows-noted r.starts.now r.sizes.now r.entries.now r.n (c.args.table.now, true) c.min-m.ensures (folds_up_end c.loop-u.invariant.1 (omega arith))).1
