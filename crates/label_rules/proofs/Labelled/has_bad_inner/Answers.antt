-- has_bad_inner meets its contract.
use mathlib.Core.Path.{refl, sym, ap, ◌∙◌}
use mathlib.Core.Bool.{Bool, ◌&&◌}
use native.Mathlib.Omega.{arith}
use borrow.Author.Tests.{le-ltb}
use Rattle.lists.proofs.Folds.{some_hit, some_on, some_end}
use Rattle.model.specs.Plan.{neighbour, border}
use Rattle.model.specs.Labels.{bad_dart}
use Rattle.rings.specs.Tables.{plan_of}
use Rattle.label_rules.proofs.Labelled.has_bad_inner.Goals as goal

pub loop-i-init : goal.loop-i-init
loop-i-init c = record { same = refl }

pub is_bad_inner-requires-clause-there : goal.is_bad_inner-requires-clause-there
is_bad_inner-requires-clause-there c =
    let (x, y) = c.requires.there c.loop-i.i (omega arith) in
    let e = c.neighbour_of.ensures ∙ ap neighbour c.from.ensures in
    (omega arith, omega arith)

pub is_bad_inner-requires-clause-inner : goal.is_bad_inner-requires-clause-inner
is_bad_inner-requires-clause-inner c = ap (λ (b : Bool). b && border c.neighbour_of.result) (le-ltb c.args.u 4 c.requires.inner)

pub returns-then-is_bad_inner : goal.returns-then-is_bad_inner
returns-then-is_bad_inner c =
    let a = c.args in
    let s = a.self.now in
    let e = c.neighbour_of.ensures ∙ ap neighbour c.from.ensures in
    some_hit c.loop-i.invariant (omega arith) (ap (bad_dart (plan_of s.rings) s.labels.now a.u) (sym e) ∙ sym c.is_bad_inner.ensures ∙ c.if-is_bad_inner.true)

pub loop-i-preserved : goal.loop-i-preserved
loop-i-preserved c =
    let a = c.args in
    let s = a.self.now in
    let e = c.neighbour_of.ensures ∙ ap neighbour c.from.ensures in
    some_on c.loop-i.invariant (omega arith) (ap (bad_dart (plan_of s.rings) s.labels.now a.u) (sym e) ∙ sym c.is_bad_inner.ensures ∙ c.if-is_bad_inner.false)

pub returns : goal.returns
returns c = some_end c.loop-i.invariant (omega arith)
