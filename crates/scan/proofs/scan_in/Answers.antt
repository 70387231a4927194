-- scan_in meets its contract.
use Prim.Native.Nat.{◌*◌, ◌≤◌}
use mathlib.Core.Path.{refl, ap, ◌∙◌}
use native.Mathlib.Omega.{arith}
use Rattle.model.specs.Plan.{context_count}
use Rattle.model.specs.Scan.{scan}
use Rattle.rings.specs.Tables.{plan_of}
use Rattle.rings.proofs.Rows.{as_table, count-rows}
use Rattle.plan_bounds.specs.Fits.{fit}
use Rattle.ring_successors.proofs.Shorter.{successors_shorter}
use Rattle.scan.proofs.scan_in.Goals as goal

pub invariant_of-with_successors : goal.invariant_of-with_successors
invariant_of-with_successors g c =
    let f = c.args.fit.now in
    let r = c.rings-rings.result in
    let e = c.rings-rings.ensures in
    let m = count-rows r.starts.now r.sizes.now r.entries.now r.n in
    let size = e.n in
    let (rows, most) = c.requires in
    let room : 200 * context_count (plan_of r) ≤ g.row.N = omega arith in
    record {
      fits = ap fit (as_table f.plan r (e.starts ∙ c.starts_of-starts.ensures) e.sizes e.entries e.n) ∙ f.fits;
      own = successors_shorter (plan_of r) {k = g.row.N} room most refl c.fill.ensures.table_after;
    }

pub returns : goal.returns
returns g c =
    let e = c.rings-rings.ensures in
    c.scan.ensures ∙ ap scan (as_table c.args.fit.now.plan c.rings-rings.result (e.starts ∙ c.starts_of-starts.ensures) e.sizes e.entries e.n)
