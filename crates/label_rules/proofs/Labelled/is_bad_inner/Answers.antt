-- is_bad_inner meets its contract.
use mathlib.Core.Path.{refl, ◌∙◌}
use native.Mathlib.Omega.{arith}
use borrow.Author.Tests.{lt-ltb}
use Rattle.rings.specs.Tables.{plan_of}
use Rattle.label_rules.proofs.Breaks.{bad_none, bad_pair}
use Rattle.label_rules.proofs.Labelled.is_bad_inner.Goals as goal

pub returns-then-x-lt-DIRECTED : goal.returns-then-x-lt-DIRECTED
returns-then-x-lt-DIRECTED c =
    let a = c.args in
    let s = a.self.now in
    lt-ltb c.mark_at-x.result 2 (omega arith) ∙ bad_none (plan_of s.rings) s.labels.now a.u a.v c.mark_at-x.ensures refl c.requires.inner (omega arith)

pub returns-else-x-lt-DIRECTED : goal.returns-else-x-lt-DIRECTED
returns-else-x-lt-DIRECTED c =
    let a = c.args in
    let s = a.self.now in
    bad_pair (plan_of s.rings) s.labels.now a.u a.v c.mark_at-x.ensures refl c.requires.inner (omega arith) c.mark_at.ensures c.across.ensures
