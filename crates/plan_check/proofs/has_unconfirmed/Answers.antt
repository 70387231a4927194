-- has_unconfirmed meets its contract.
use mathlib.Core.Path.{ap, ◌∙◌}
use Prim.Native.Nat.{ℕ}
use native.Mathlib.Omega.{arith}
use lib.ListN.{get_or}
use Rattle.model.specs.Plan.{neighbour}
use Rattle.plan_check.proofs.Confirming.{round_start, round_hit, round_on, round_end, entry-near, ring-has_unconfirmed, part-has_unconfirmed}
use Rattle.plan_check.proofs.has_unconfirmed.Goals as goal

pub some_unconfirmed-requires : goal.some_unconfirmed-requires
some_unconfirmed-requires c = let here = entry-near c.neighbour_of-before.ensures c.number_at.ensures.upper_bound in (omega arith, here)

pub returns-in-Some : goal.returns-in-Some
returns-in-Some c =
    let r = c.args.rings.now in
    let es = r.entries.now in
    let span = c.span-start.ensures in
    let part = c.in-Some.ensures.lookup.0 in
    let last = c.number_at.ensures.value ∙ ap (λ (j : ℕ). get_or es j 0) c.saturating_sub.ensures in
    part-has_unconfirmed c.args.table.now r.starts.now r.sizes.now es r.n c.args.u span.start span.end part.0 part.1 part.2 (c.neighbour_of-before.ensures ∙ ap neighbour last) c.some_unconfirmed.ensures

pub loop-i-init : goal.loop-i-init
loop-i-init c =
    let es = c.args.rings.now.entries.now in
    let last = c.number_at.ensures.value ∙ ap (λ (j : ℕ). get_or es j 0) c.saturating_sub.ensures in
    round_start (c.neighbour_of-before.ensures ∙ ap neighbour last) (entry-near c.neighbour_of-before.ensures c.number_at.ensures.upper_bound)

pub is_unconfirmed-requires : goal.is_unconfirmed-requires
is_unconfirmed-requires c =
    let near = c.loop-i.invariant.near in
    let here = entry-near c.neighbour_of-v.ensures c.number_at-in-loop-i.ensures.upper_bound in
    (omega arith, omega arith, omega arith)

pub returns-then-is_unconfirmed : goal.returns-then-is_unconfirmed
returns-then-is_unconfirmed c =
    let r = c.args.rings.now in
    let v = c.neighbour_of-v.ensures ∙ ap neighbour c.number_at-in-loop-i.ensures.value in
    let span = c.span-start.ensures in
    round_hit c.loop-i.invariant v c.is_unconfirmed.ensures (omega arith) c.if-is_unconfirmed.true ∙ ring-has_unconfirmed c.args.table.now r.starts.now r.sizes.now r.entries.now r.n c.args.u span.start span.end

pub loop-i-preserved : goal.loop-i-preserved
loop-i-preserved c =
    let v = c.neighbour_of-v.ensures ∙ ap neighbour c.number_at-in-loop-i.ensures.value in
    let here = entry-near c.neighbour_of-v.ensures c.number_at-in-loop-i.ensures.upper_bound in
    round_on c.loop-i.invariant v c.is_unconfirmed.ensures (omega arith) here c.if-is_unconfirmed.false

pub returns : goal.returns
returns c =
    let r = c.args.rings.now in
    let span = c.span-start.ensures in
    round_end c.loop-i.invariant (omega arith) ∙ ring-has_unconfirmed c.args.table.now r.starts.now r.sizes.now r.entries.now r.n c.args.u span.start span.end
