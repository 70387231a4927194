-- note_entries meets its contract.
use mathlib.Core.Path.{ap, ◌∙◌}
use Rattle.model.specs.Plan.{neighbour}
use Rattle.ring_successors.proofs.Notes.{paired, back_start, back_on, list-end}
use native.Mathlib.Omega.{arith}
use Rattle.ring_successors.proofs.note_entries.Goals as goal

pub loop-i-init : goal.loop-i-init
loop-i-init c = (omega arith, back_start (c.neighbour_of-after.ensures ∙ ap neighbour c.number_at.ensures.value))

pub loop-i-preserved : goal.loop-i-preserved
loop-i-preserved c =
    let l = c.loop-i in
    let n = c.note-still.ensures in
    (omega arith, back_on l.invariant.1 (omega arith) (omega arith) (c.neighbour_of-v.ensures ∙ ap neighbour c.from.ensures) c.mark_of.ensures (paired n.table_after n.value))

pub returns-clause-table_after : goal.returns-clause-table_after
returns-clause-table_after c = (list-end c.args.u c.args.entries.now c.loop-i.invariant.1 (omega arith)).0

pub returns-clause-value : goal.returns-clause-value
returns-clause-value c = (list-end c.args.u c.args.entries.now c.loop-i.invariant.1 (omega arith)).1
