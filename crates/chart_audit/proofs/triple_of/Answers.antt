-- triple_of meets its contract.
use mathlib.Core.Path.{ap, ◌∙◌}
use Rattle.model.specs.Scan.{scan}
use Rattle.rings.proofs.Rows.{as_table}
use Rattle.plan_bounds.specs.Fits.{fit}
use Rattle.chart_audit.proofs.triple_of.Goals as goal

pub invariant_of-fit_rings : goal.invariant_of-fit_rings
invariant_of-fit_rings c =
    let f = c.args.fit.now in
    let e = c.rings-rings.ensures in
    record { fits = ap fit (as_table f.plan c.rings-rings.result (e.starts ∙ c.starts_of-starts.ensures) e.sizes e.entries e.n) ∙ f.fits }

pub returns : goal.returns
returns c =
    let e = c.rings-rings.ensures in
    c.first_triple.ensures ∙ ap scan (as_table c.args.fit.now.plan c.rings-rings.result (e.starts ∙ c.starts_of-starts.ensures) e.sizes e.entries e.n)
