-- resume meets its contract.
use mathlib.Core.Path.{sym, ◌∙◌}
use native.Mathlib.Omega.{arith}
use Rattle.rings.specs.Tables.{plan_of}
use Rattle.sweep_by_counts.proofs.Singles.{rises_hit, rises_on, rises_end, reach_held}
use Rattle.sweep_by_counts.proofs.pick.View.resume.Goals as goal

pub returns-then-not-is_single : goal.returns-then-not-is_single
returns-then-not-is_single c =
    let p = plan_of c.args.self.now.located.rings in
    λ s cnt h. omega (arith, reach_held p h.front.rep c.args.k c.min-m.ensures (rises_hit c.loop-t.invariant c.loop-t-test.true (sym c.is_single.ensures ∙ c.if-not-is_single.true)))

pub loop-t-preserved : goal.loop-t-preserved
loop-t-preserved c = rises_on c.loop-t.invariant c.loop-t-test.true (sym c.is_single.ensures ∙ c.if-not-is_single.false)

pub returns : goal.returns
returns c =
    let p = plan_of c.args.self.now.located.rings in
    λ s cnt h. omega (arith, reach_held p h.front.rep c.args.k c.min-m.ensures (c.max.ensures ∙ rises_end c.loop-t.invariant (omega arith) (omega arith)))
