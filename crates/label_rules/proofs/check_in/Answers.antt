-- check_in meets its contract.
use mathlib.Core.Path.{refl, sym, ap, ◌∙◌}
use native.Mathlib.Omega.{arith}
use Prim.Native.Nat.{ℕ}
use Rattle.model.specs.Outcome.{rule}
use Rattle.model.specs.Plan.{Plan}
use Rattle.model.specs.Labels.{breaks, label_rules}
use Rattle.rings.specs.Tables.{starts_of, plan_of}
use Rattle.rings.proofs.Rows.{as_table}
use Rattle.plan_bounds.specs.Fits.{fit}
use Rattle.label_rules.proofs.ByTable.{counted, marked_filled}
use Rattle.label_rules.proofs.check_in.Goals as goal

pub fill-requires-clause-fits : goal.fill-requires-clause-fits
fill-requires-clause-fits g c =
    let f = c.args.fit.now in
    let e = c.rings-rings.ensures in
    ap fit (as_table f.plan c.rings-rings.result (e.starts ∙ c.starts_of-starts.ensures) e.sizes e.entries e.n) ∙ f.fits

pub invariant_of-labelled : goal.invariant_of-labelled
invariant_of-labelled g c =
    let f = c.args.fit.now in
    let e = c.rings-rings.ensures in
    let size = e.n in
    let (rows, most) = c.requires in
    let fits = ap fit (as_table f.plan c.rings-rings.result (e.starts ∙ c.starts_of-starts.ensures) e.sizes e.entries e.n) ∙ f.fits in
    let begins = e.starts ∙ c.starts_of-starts.ensures ∙ ap starts_of (sym e.sizes) in
    record { fits = fits; begins = begins; own = marked_filled c.rings-rings.result fits begins c.args.labels.now {k = g.row.N} (omega arith) refl c.fill.ensures }

pub returns : goal.returns
unfolding label_rules
returns g c =
    let f = c.args.fit.now in
    let r = c.rings-rings.result in
    let e = c.rings-rings.ensures in
    let fits = ap fit (as_table f.plan r (e.starts ∙ c.starts_of-starts.ensures) e.sizes e.entries e.n) ∙ f.fits in
    c.check.ensures
    ∙ ap (λ (n : ℕ). rule 10 n (breaks (plan_of r) c.args.labels.now)) (sym (counted r fits))
    ∙ ap (λ (p : Plan). label_rules p c.args.labels.now) (as_table f.plan r (e.starts ∙ c.starts_of-starts.ensures) e.sizes e.entries e.n)
