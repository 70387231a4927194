-- note_around meets its contract.
use Prim.Native.Nat.{◌+◌, ◌-◌, ◌*◌}
use mathlib.Core.Path.{refl, ap, ◌∙◌}
use native.Mathlib.Omega.{arith}
use lib.ListN.{length-set}
use Rattle.model.specs.Plan.{neighbour}
use Rattle.label_rules.specs.LabelBy.{note_around}
use Rattle.label_rules.proofs.ByTable.{few, entry_low}
use Rattle.label_rules.proofs.Noted.{note_put, back_start, back_on, back_end}
use Rattle.label_rules.proofs.Rows.{row_noted}
use Rattle.label_rules.proofs.note_around.Goals as goal

pub returns-then-end-labels : goal.returns-then-end-labels
returns-then-end-labels c =
    let most = few c.args.rings.now c.requires.fits in
    row_noted c.args.rings.now c.args.labels.now c.args.u c.args.table.now c.span-start.ensures.start c.span-start.ensures.end (omega arith) (omega arith) (omega arith) (omega arith) c.note_row.ensures

pub loop-i-init : goal.loop-i-init
loop-i-init c = (omega arith, omega arith, refl, back_start)

pub overflow_add-table : goal.overflow_add-table
overflow_add-table c =
    let r = c.args.rings.now in
    let (h, l, long, inv) = c.loop-i.invariant in
    let (x, y) = entry_low r c.requires.fits c.args.u (c.loop-i.i - 1) c.span-start.ensures.start c.span-start.ensures.end (omega arith) (omega arith) in
    let e = c.neighbour_of-v.ensures ∙ ap neighbour c.number_at.ensures.value in
    let most = few r c.requires.fits in
    omega arith

pub bounds-table-u : goal.bounds-table-u
bounds-table-u c =
    let r = c.args.rings.now in
    let (h, l, long, inv) = c.loop-i.invariant in
    let (x, y) = entry_low r c.requires.fits c.args.u (c.loop-i.i - 1) c.span-start.ensures.start c.span-start.ensures.end (omega arith) (omega arith) in
    let e = c.neighbour_of-v.ensures ∙ ap neighbour c.number_at.ensures.value in
    let most = few r c.requires.fits in
    let room = c.requires.room in
    omega arith

pub loop-i-preserved : goal.loop-i-preserved
loop-i-preserved c =
    let r = c.args.rings.now in
    let (h, l, long, inv) = c.loop-i.invariant in
    let (x, y) = entry_low r c.requires.fits c.args.u (c.loop-i.i - 1) c.span-start.ensures.start c.span-start.ensures.end (omega arith) (omega arith) in
    let e = c.neighbour_of-v.ensures ∙ ap neighbour c.number_at.ensures.value in
    let most = few r c.requires.fits in
    let noted = note_put c.loop-i.table c.args.u c.neighbour_of-v.result c.label_at.result (omega arith) (omega arith) c.mark_of.ensures in
    (omega arith, omega arith, length-set c.loop-i.table (200 * c.args.u + c.neighbour_of-v.result) c.mark_of.result ∙ long, back_on inv (omega arith) (omega arith) e c.label_at.ensures noted)

pub returns : goal.returns
unfolding note_around
returns c =
    let r = c.args.rings.now in
    let (h, l, long, inv) = c.loop-i.invariant in
    back_end inv r.starts.now r.sizes.now r.n (omega arith) c.span-start.ensures.start c.span-start.ensures.end
