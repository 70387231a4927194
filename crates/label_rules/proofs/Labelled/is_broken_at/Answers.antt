-- is_broken_at meets its contract.
use mathlib.Core.Path.{◌∙◌}
use native.Mathlib.Omega.{arith}
use borrow.Author.Tests.{lt-leb}
use Rattle.rings.specs.Tables.{plan_of}
use Rattle.label_rules.proofs.ByTable.{around_is}
use Rattle.label_rules.proofs.Breaks.{breaks_dart, breaks_border, breaks_runs}
use Rattle.label_rules.proofs.Labelled.is_broken_at.Goals as goal

pub returns-then-has_wrong : goal.returns-then-has_wrong
returns-then-has_wrong c =
    let a = c.args in
    let s = a.self.now in
    c.if-has_wrong.true ∙ breaks_dart (plan_of s.rings) s.labels.now a.u c.has_wrong.ensures c.if-has_wrong.true

pub returns-else-u-ge4 : goal.returns-else-u-ge4
returns-else-u-ge4 c =
    let a = c.args in
    let s = a.self.now in
    lt-leb 4 a.u (omega arith) ∙ breaks_border (plan_of s.rings) s.labels.now a.u c.has_wrong.ensures c.if-has_wrong.false (omega arith)

pub returns-then-u-ge4 : goal.returns-then-u-ge4
returns-then-u-ge4 c =
    let a = c.args in
    let s = a.self.now in
    let around = around_is s.rings s.fits s.begins s.labels.now a.u c.span-start.ensures.start c.span-start.ensures.end in
    breaks_runs (plan_of s.rings) s.labels.now a.u c.has_wrong.ensures c.if-has_wrong.false (omega arith) c.four_runs.ensures around
