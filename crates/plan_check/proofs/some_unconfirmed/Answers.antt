-- some_unconfirmed meets its contract.
use mathlib.Core.Path.{ap, ◌∙◌}
use native.Mathlib.Omega.{arith}
use Rattle.model.specs.Plan.{neighbour}
use Rattle.plan_check.proofs.Confirming.{round_all, round_hit, round_on, round_end, entry-near}
use Rattle.plan_check.proofs.some_unconfirmed.Goals as goal

pub loop-i-init : goal.loop-i-init
loop-i-init c = round_all (omega arith)

pub is_unconfirmed-requires : goal.is_unconfirmed-requires
is_unconfirmed-requires c =
    let near = c.loop-i.invariant.near in
    let fits = c.type_inv.entries c.loop-i.i in
    let here = entry-near c.neighbour_of-v.ensures (omega (arith, fits, c.from.ensures)) in
    (omega arith, omega arith, omega arith)

pub returns-then-is_unconfirmed : goal.returns-then-is_unconfirmed
returns-then-is_unconfirmed c = round_hit c.loop-i.invariant (c.neighbour_of-v.ensures ∙ ap neighbour c.from.ensures) c.is_unconfirmed.ensures (omega arith) c.if-is_unconfirmed.true

pub loop-i-preserved : goal.loop-i-preserved
loop-i-preserved c =
    let fits = c.type_inv.entries c.loop-i.i in
    let here = entry-near c.neighbour_of-v.ensures (omega (arith, fits, c.from.ensures)) in
    round_on c.loop-i.invariant (c.neighbour_of-v.ensures ∙ ap neighbour c.from.ensures) c.is_unconfirmed.ensures (omega arith) here c.if-is_unconfirmed.false

pub returns : goal.returns
returns c = round_end c.loop-i.invariant (omega arith)
