-- is_not_due meets its contract.
use mathlib.Core.Path.{◌∙◌}
use native.Mathlib.Omega.{arith}
use borrow.Author.Tests.{lt-leb}
use Rattle.rings.specs.Tables.{plan_of}
use Rattle.label_rules.proofs.Breaks.{due_missed, due_none}
use Rattle.label_rules.proofs.Labelled.is_not_due.Goals as goal

pub returns-then-v-ge4 : goal.returns-then-v-ge4
returns-then-v-ge4 c =
    let a = c.args in
    let s = a.self.now in
    due_missed (plan_of s.rings) s.labels.now a.u a.v c.mark_at.ensures c.requires.0 (omega arith) c.mark_of.ensures c.due_label.ensures

pub returns-else-v-ge4 : goal.returns-else-v-ge4
returns-else-v-ge4 c =
    let a = c.args in
    let s = a.self.now in
    lt-leb 4 a.v (omega arith) ∙ due_none (plan_of s.rings) s.labels.now a.u a.v (omega arith)
