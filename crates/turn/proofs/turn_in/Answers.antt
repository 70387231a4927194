-- turn_in meets its contract.
use mathlib.Core.Path.{refl, sym, ap, ◌∙◌}
use native.Mathlib.Omega.{arith}
use Rattle.lists.specs.Parts.{pairs}
use Rattle.model.specs.Plan.{Plan}
use Rattle.rings.specs.Tables.{starts_of}
use Rattle.rings.proofs.Rows.{as_table, count-rows}
use Rattle.plan_bounds.specs.Fits.{fit}
use Rattle.ring_positions.proofs.Notes.{finds-filled}
use Rattle.turn.specs.EdgeTurns.{pairs_turned}
use Rattle.turn.proofs.turn_in.Goals as goal

pub whole_as_slice-fill : goal.whole_as_slice-fill
whole_as_slice-fill g c = let r = c.requires.room in omega arith

pub shared_whole_as_slice-located : goal.shared_whole_as_slice-located
shared_whole_as_slice-located g c = let r = c.requires.room in omega arith

pub invariant_of-located : goal.invariant_of-located
invariant_of-located g c =
    let r = c.rings-rings.result in
    let size = c.rings-rings.ensures.n in
    let room = c.requires.room in
    record { own = finds-filled _ {k = g.row.N} (sym (count-rows r.starts.now r.sizes.now r.entries.now r.n)) (omega arith) refl c.fill.ensures }

pub invariant_of-fit_located : goal.invariant_of-fit_located
invariant_of-fit_located g c =
    let f = c.args.fit.now in
    let e = c.rings-rings.ensures in
    record {
      fits = ap fit (as_table f.plan c.rings-rings.result (e.starts ∙ c.starts_of-starts.ensures) e.sizes e.entries e.n) ∙ f.fits;
      begins = e.starts ∙ c.starts_of-starts.ensures ∙ ap starts_of (sym e.sizes);
    }

pub returns : goal.returns
returns g c =
    let a = c.args in
    let e = c.rings-rings.ensures in
    c.turn_pairs.ensures ∙ ap (λ (p : Plan). pairs_turned p a.q (pairs a.items.now) a.labels) (as_table a.fit.now.plan c.rings-rings.result (e.starts ∙ c.starts_of-starts.ensures) e.sizes e.entries e.n)
