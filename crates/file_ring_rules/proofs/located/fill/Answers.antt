-- fill meets its contract.
use mathlib.Core.Path.{refl}
use native.Mathlib.Omega.{arith}
use Rattle.file_rings.proofs.Rings.{count-lent, lent-size}
use Rattle.ring_positions.proofs.Notes.{notes_start, notes_on, notes_next, notes_end}
use Rattle.file_ring_rules.proofs.located.fill.Goals as goal

pub loop-u-init : goal.loop-u-init
loop-u-init c = notes_start

pub loop-i-preserved : goal.loop-i-preserved
loop-i-preserved c =
    let r = c.args.rings.now in
    let fit = c.min-m.ensures in
    let size = c.size_of-i-end.ensures.value in
    let long = lent-size r.starts.now r.sizes.now r.file.now r.n c.loop-u.u in
    notes_on c.loop-i.invariant (omega arith) (omega arith) c.neighbour_at.ensures (omega arith) refl c.note.ensures

pub loop-u-preserved : goal.loop-u-preserved
loop-u-preserved c =
    let r = c.args.rings.now in
    let size = c.size_of-i-end.ensures.value in
    let long = lent-size r.starts.now r.sizes.now r.file.now r.n c.loop-u.u in
    notes_next c.loop-i.invariant (omega arith) (omega arith)

pub returns : goal.returns
returns c =
    let r = c.args.rings.now in
    let fit = c.min-m.ensures in
    let all = count-lent r.starts.now r.sizes.now r.file.now r.n in
    notes_end c.loop-u.invariant (omega arith)
