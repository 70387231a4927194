-- is_bad meets its contract.
use mathlib.Core.Path.{sym, ◌∙◌}
use Rattle.rings.specs.Tables.{plan_of}
use Rattle.label_rules.proofs.Breaks.{bad_border}
use Rattle.label_rules.proofs.Labelled.is_bad.Goals as goal

pub returns-then-both_border : goal.returns-then-both_border
returns-then-both_border c =
    let a = c.args in
    let s = a.self.now in
    bad_border (plan_of s.rings) s.labels.now a.u a.v c.mark_at.ensures c.both_border.ensures c.if-both_border.true c.mark_of.ensures

pub is_bad_inner-requires-clause-inner : goal.is_bad_inner-requires-clause-inner
is_bad_inner-requires-clause-inner c = sym c.both_border.ensures ∙ c.if-both_border.false
