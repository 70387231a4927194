-- note_row meets its contract.
use mathlib.Core.Path.{ap, ◌∙◌}
use Rattle.lists.proofs.Spans.{get_or-inside}
use Rattle.model.specs.Plan.{neighbour}
use Rattle.label_rules.specs.LabelBy.{label_mark}
use Rattle.label_rules.proofs.Rows.{noting_start, noting_on, noting_past, noting_end}
use native.Mathlib.Omega.{arith}
use Rattle.label_rules.proofs.note_row.Goals as goal

pub loop-i-init : goal.loop-i-init
loop-i-init c = noting_start

pub loop-i-preserved-then-v-row : goal.loop-i-preserved-then-v-row
loop-i-preserved-then-v-row c =
    let few = c.loop-i.invariant.few in
    noting_on c.loop-i.invariant (omega arith) (c.neighbour_of-v.ensures ∙ ap neighbour c.from.ensures) (c.mark_of.ensures ∙ ap label_mark (get_or-inside c.args.labels.now _ _ _ (omega arith)))

pub loop-i-preserved : goal.loop-i-preserved
loop-i-preserved c = noting_past c.loop-i.invariant (omega arith) (c.neighbour_of-v.ensures ∙ ap neighbour c.from.ensures) (omega arith)

pub returns : goal.returns
returns c = noting_end c.loop-i.invariant (omega arith)
