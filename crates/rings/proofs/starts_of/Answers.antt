-- starts_of meets its contract.
use mathlib.Core.Path.{refl, ◌∙◌}
use Prim.Native.Nat.{◌+◌}
use Rattle.lists.proofs.Loops.{fills_start, fills_on, fills_end}
use Rattle.rings.specs.Tables.{starts_of}
use Rattle.rings.proofs.Rows.{start_first, start-next}
use native.Mathlib.Omega.{arith}
use Rattle.rings.proofs.starts_of.Goals as goal

pub loop-u-init : goal.loop-u-init
loop-u-init c = (omega arith, omega arith, start_first c.args.sizes.now, fills_start refl)

pub loop-u-preserved : goal.loop-u-preserved
loop-u-preserved c =
    let z = c.args.sizes.now in
    let l = c.loop-u in
    (omega arith, omega arith, start-next z l.u (l.u + 1) c.from-sum.result l.sum (omega arith) l.invariant.2 (c.from-sum.ensures ∙ c.at.ensures), fills_on l.invariant.3 (omega arith) (omega arith) l.invariant.2 refl)

pub returns : goal.returns
unfolding starts_of
returns c = fills_end c.loop-u.invariant.3 (omega arith)
