-- pick meets its contract.
use mathlib.Core.Path.{refl, sym, ◌∙◌}
use Prim.Native.Nat.{◌-◌}
use native.Mathlib.Omega.{arith}
use Rattle.rings.specs.Tables.{plan_of}
use Rattle.sweep_by_counts.proofs.Singles.{candidate_held}
use Rattle.sweep_by_counts.proofs.Picked.{picking_from, picking_shut, picking_over, picking_skip, picking_hit, picking_end}
use Rattle.sweep_by_counts.proofs.Tests.{judged, put_held, alone_held}
use Rattle.sweep_by_counts.proofs.pick.View.pick.Goals as goal

pub loop-j-init : goal.loop-j-init
loop-j-init c = (omega arith, λ s cnt h. picking_from (let z = h.front.rep.len in let y = h.front.rep.short in omega arith))

pub returns-then-is_good-clause-pair : goal.returns-then-is_good-clause-pair
returns-then-is_good-clause-pair c =
    let a = c.args.self.now in
    let j = c.loop-j.j - 1 in
    let few = c.loop-j.invariant.0 in
    λ s cnt h.
    let good = judged a.located.rings h j c.loop-j.list (omega arith) c.candidate-i.ensures.value c.below.ensures.value c.put_on-q.ensures.value c.put_on-q.ensures.list c.is_good.ensures in
    let opened = c.is_open.ensures s.frontier h.front.rep in
    picking_hit (c.loop-j.invariant.1 s cnt h) (omega arith) _ refl (c.candidate-i.ensures.value ∙ candidate_held (plan_of a.located.rings) h.front.rep j) (sym opened ∙ c.if-is_open.true) (sym good ∙ c.if-is_good.true)

pub returns-then-is_good-clause-list : goal.returns-then-is_good-clause-list
returns-then-is_good-clause-list c =
    let a = c.args.self.now in
    λ s cnt h.
    record { few = c.put_on-q.ensures.upper_bound; same = put_held a.located.rings h (c.loop-j.j - 1 - 1) c.below.ensures.value c.put_on-q.ensures.value c.loop-j.list c.put_on-q.ensures.list }

pub loop-j-preserved-then-q-eq1 : goal.loop-j-preserved-then-q-eq1
loop-j-preserved-then-q-eq1 c =
    let a = c.args.self.now in
    let j = c.loop-j.j - 1 in
    let few = c.loop-j.invariant.0 in
    let low = c.candidate-i.ensures.upper_bound in (
      omega arith,
      λ s cnt h.
          let good = judged a.located.rings h j c.loop-j.list (omega arith) c.candidate-i.ensures.value c.below.ensures.value c.put_on-q.ensures.value c.put_on-q.ensures.list c.is_good.ensures in
          let opened = c.is_open.ensures s.frontier h.front.rep in
          let on = picking_over (c.loop-j.invariant.1 s cnt h) (omega arith) (sym opened ∙ c.if-is_open.true) (sym good ∙ c.if-is_good.false) in
          let alone = alone_held a.located.rings h (j - 1) c.below.ensures.value c.put_on-q.ensures.value c.if-q-eq1.true in
          let inside = (c.loop-j.invariant.1 s cnt h).low in
          picking_skip on (omega arith) (omega arith) low alone (c.candidate-i.ensures.value ∙ candidate_held (plan_of a.located.rings) h.front.rep j),
    )

pub loop-j-preserved-else-q-eq1 : goal.loop-j-preserved-else-q-eq1
loop-j-preserved-else-q-eq1 c =
    let a = c.args.self.now in
    let j = c.loop-j.j - 1 in
    let few = c.loop-j.invariant.0 in (
      omega arith,
      λ s cnt h.
          let good = judged a.located.rings h j c.loop-j.list (omega arith) c.candidate-i.ensures.value c.below.ensures.value c.put_on-q.ensures.value c.put_on-q.ensures.list c.is_good.ensures in
          let opened = c.is_open.ensures s.frontier h.front.rep in
          picking_over (c.loop-j.invariant.1 s cnt h) (omega arith) (sym opened ∙ c.if-is_open.true) (sym good ∙ c.if-is_good.false),
    )

pub loop-j-preserved : goal.loop-j-preserved
loop-j-preserved c =
    let few = c.loop-j.invariant.0 in
    (omega arith, λ s cnt h. picking_shut (c.loop-j.invariant.1 s cnt h) (omega arith) (sym (c.is_open.ensures s.frontier h.front.rep) ∙ c.if-is_open.false))

pub returns-clause-pair : goal.returns-clause-pair
returns-clause-pair c = λ s cnt h. picking_end (c.loop-j.invariant.1 s cnt h) (omega arith)
