-- has_wrong meets its contract.
use Prim.Native.Nat.{◌+◌, ◌-◌}
use mathlib.Core.Path.{refl, sym, ap, ◌∙◌}
use native.Mathlib.Omega.{arith}
use lib.ListN.{drop, length-take}
use lib.Seq.{get_or-take, get_or-drop}
use Rattle.lists.proofs.Folds.{some_hit, some_on, some_end}
use Rattle.model.specs.Plan.{neighbour}
use Rattle.rings.specs.Tables.{plan_of}
use Rattle.label_rules.specs.LabelBy.{wrong_dart}
use Rattle.label_rules.proofs.ByTable.{entry_low, some_ring, inner_ring}
use Rattle.label_rules.proofs.Labelled.has_wrong.Goals as goal

pub has_bad_inner-requires-clause-there : goal.has_bad_inner-requires-clause-there
has_bad_inner-requires-clause-there c i h =
    let a = c.args in
    let s = a.self.now in
    let es = s.rings.entries.now in
    let start = c.span-start.result.start in
    let k = c.span-start.result.end - start in
    let long = length-take k (drop start es) in
    let at = get_or-take k (drop start es) i 0 (omega arith) ∙ get_or-drop start es i 0 in
    let (x, y) = entry_low s.rings s.fits a.u (start + i) c.span-start.ensures.start c.span-start.ensures.end (omega arith) (omega arith) in
    let e = ap neighbour at in
    (omega arith, omega arith)

pub returns-then-end-self : goal.returns-then-end-self
returns-then-end-self c =
    let s = c.args.self.now in
    c.has_bad_inner.ensures ∙ inner_ring s.rings s.labels.now c.args.u (omega arith) c.span-start.ensures.start c.span-start.ensures.end (omega arith)

pub loop-i-init : goal.loop-i-init
loop-i-init c = (omega arith, record { same = refl })

pub is_wrong-requires : goal.is_wrong-requires
is_wrong-requires c =
    let a = c.args in
    let s = a.self.now in
    let h = c.loop-i.invariant.0 in
    let low = entry_low s.rings s.fits a.u c.loop-i.i c.span-start.ensures.start c.span-start.ensures.end (omega arith) (omega arith) in
    let e = c.neighbour_of.ensures ∙ ap neighbour c.number_at.ensures.value in
    let (x, y) = low in
    (omega arith, omega arith)

pub returns-then-is_wrong : goal.returns-then-is_wrong
returns-then-is_wrong c =
    let a = c.args in
    let s = a.self.now in
    let wrong = wrong_dart (plan_of s.rings) s.labels.now a.u in
    let e = c.neighbour_of.ensures ∙ ap neighbour c.number_at.ensures.value in
    some_hit c.loop-i.invariant.1 (omega arith) (ap wrong (sym e) ∙ sym c.is_wrong.ensures ∙ c.if-is_wrong.true)
    ∙ some_ring s.rings a.u wrong c.span-start.ensures.start c.span-start.ensures.end

pub loop-i-preserved : goal.loop-i-preserved
loop-i-preserved c =
    let a = c.args in
    let s = a.self.now in
    let wrong = wrong_dart (plan_of s.rings) s.labels.now a.u in
    let h = c.loop-i.invariant.0 in
    let e = c.neighbour_of.ensures ∙ ap neighbour c.number_at.ensures.value in
    (omega arith, some_on c.loop-i.invariant.1 (omega arith) (ap wrong (sym e) ∙ sym c.is_wrong.ensures ∙ c.if-is_wrong.false))

pub returns : goal.returns
returns c =
    let a = c.args in
    let s = a.self.now in
    some_end c.loop-i.invariant.1 (omega arith) ∙ some_ring s.rings a.u (wrong_dart (plan_of s.rings) s.labels.now a.u) c.span-start.ensures.start c.span-start.ensures.end
