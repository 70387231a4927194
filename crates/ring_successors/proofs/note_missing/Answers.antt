-- note_missing meets its contract.
use mathlib.Core.Path.{ap, ◌∙◌}
use Rattle.model.specs.Plan.{neighbour}
use Rattle.ring_successors.proofs.Notes.{paired, back_start, back_on, row-end}
use native.Mathlib.Omega.{arith}
use Rattle.ring_successors.proofs.note_missing.Goals as goal

pub loop-i-init : goal.loop-i-init
loop-i-init c = (omega arith, omega arith, back_start (c.neighbour_of-after.ensures ∙ ap neighbour c.number_at.ensures.value))

pub loop-i-preserved : goal.loop-i-preserved
loop-i-preserved c =
    let l = c.loop-i in
    let v = c.neighbour_of-v.ensures ∙ ap neighbour c.number_at-in-loop-i.ensures.value in
    let n = c.note-still.ensures in
    (omega arith, omega arith, back_on l.invariant.2 (omega arith) (omega arith) v c.mark_of.ensures (paired n.table_after n.value))

pub returns-clause-table_after : goal.returns-clause-table_after
returns-clause-table_after c =
    let r = c.args.rings.now in
    (row-end r.starts.now r.sizes.now r.entries.now r.n c.args.u c.loop-i.invariant.2 (omega arith) c.span-start.ensures.start (omega arith)).0

pub returns-clause-value : goal.returns-clause-value
returns-clause-value c =
    let r = c.args.rings.now in
    (row-end r.starts.now r.sizes.now r.entries.now r.n c.args.u c.loop-i.invariant.2 (omega arith) c.span-start.ensures.start (omega arith)).1
