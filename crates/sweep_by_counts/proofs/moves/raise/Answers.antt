-- raise meets its contract.
use Prim.Native.Nat.{ℕ, ◌+◌, ◌-◌}
use mathlib.Core.Path.{◌≡◌, sym, ap, ◌∙◌}
use native.Mathlib.Omega.{arith}
use lib.ListN.{get_or}
use Rattle.model.specs.Plan.{neighbour}
use Rattle.rings.proofs.Rows.{ring-size, ring-at}
use Rattle.sweep_by_counts.proofs.Counts.{raises_on, raises_end}
use Rattle.sweep_by_counts.proofs.moves.raise.Goals as goal

pub loop-i-preserved : goal.loop-i-preserved
loop-i-preserved c =
    let r = c.args.rings.now in
    let span = c.span-start.ensures in
    let k = c.loop-i.i - c.span-start.result.start in
    let size = ring-size r.starts.now r.sizes.now r.entries.now r.n c.args.u in
    let place : c.loop-i.i ≡ get_or r.starts.now c.args.u 0 + k = omega arith in
    let w = c.neighbour_of-w.ensures ∙ ap neighbour (c.number_at.ensures.value ∙ ap (λ (j : ℕ). get_or r.entries.now j 0) place) ∙ sym (ring-at r.starts.now r.sizes.now r.entries.now r.n c.args.u k (omega arith)) in
    let x = c.at.ensures in
    let y = c.saturating_add-more.ensures in
    raises_on c.loop-i.invariant (omega arith) (omega arith) w (omega arith) c.put.ensures

pub returns : goal.returns
returns c =
    let r = c.args.rings.now in
    let span = c.span-start.ensures in
    let size = ring-size r.starts.now r.sizes.now r.entries.now r.n c.args.u in
    raises_end c.loop-i.invariant (omega arith)
