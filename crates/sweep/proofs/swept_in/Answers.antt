-- swept_in meets its contract.
use Prim.Native.Nat.{◌*◌, ◌≤◌, min}
use mathlib.Core.Path.{refl, sym, ap, ◌∙◌, subst}
use native.Mathlib.Omega.{arith}
use Rattle.lists.specs.Spans.{zero_padded}
use Rattle.model.specs.Outcome.{mapped}
use Rattle.model.specs.Plan.{Plan}
use Rattle.model.specs.Sound.{Sound}
use Rattle.rings.specs.Tables.{starts_of}
use Rattle.rings.proofs.Rows.{as_table, count-rows}
use Rattle.plan_bounds.specs.Fits.{fit}
use Rattle.ring_positions.proofs.Notes.{finds-filled}
use Rattle.sweep_labelling.specs.Labelling.{swept}
use Rattle.sweep.proofs.Arrays.{guided}
use Rattle.sweep.proofs.swept_in.Goals as goal

pub whole_as_slice-fill : goal.whole_as_slice-fill
whole_as_slice-fill g c = let r = c.requires.room in omega arith

pub shared_whole_as_slice-located : goal.shared_whole_as_slice-located
shared_whole_as_slice-located g c = let r = c.requires.room in omega arith

pub invariant_of-located : goal.invariant_of-located
invariant_of-located g c =
    let r = c.rings-rings.result in
    let size = c.rings-rings.ensures.n in
    let (rows, most) = c.requires.room in
    let room : 200 * min r.n 200 ≤ g.row.N = omega arith in
    record { own = finds-filled _ {k = g.row.N} (sym (count-rows r.starts.now r.sizes.now r.entries.now r.n)) room refl c.fill.ensures }

pub invariant_of-guided : goal.invariant_of-guided
invariant_of-guided g c =
    let f = c.args.fit.now in
    let r = c.rings-rings.result in
    let e = c.rings-rings.ensures in
    let starts = e.starts ∙ c.starts_of-starts.ensures in
    let (guide, room) = guided r (starts ∙ ap starts_of (sym e.sizes)) (ap fit (as_table f.plan r starts e.sizes e.entries e.n) ∙ f.fits) in
    record { guide = guide; room = room }

pub invariant_of-guided-2 : goal.invariant_of-guided-2
invariant_of-guided-2 g c =
    let f = c.args.fit.now in
    let r = c.rings-rings.result in
    let e = c.rings-rings.ensures in
    let starts = e.starts ∙ c.starts_of-starts.ensures in
    let (guide, room) = guided r (starts ∙ ap starts_of (sym e.sizes)) (ap fit (as_table f.plan r starts e.sizes e.entries e.n) ∙ f.fits) in
    record { guide = guide; room = room }

pub invariant_of-counting : goal.invariant_of-counting
invariant_of-counting g c =
    let e = c.rings-rings.ensures in
    record { sound = subst Sound (sym (as_table c.args.fit.now.plan c.rings-rings.result (e.starts ∙ c.starts_of-starts.ensures) e.sizes e.entries e.n)) (c.requires.sound c.if-ruled.true) }

pub returns-then-ruled : goal.returns-then-ruled
returns-then-ruled g c =
    let e = c.rings-rings.ensures in
    c.run.ensures ∙ ap (λ (p : Plan). mapped (zero_padded 1186) (swept p)) (as_table c.args.fit.now.plan c.rings-rings.result (e.starts ∙ c.starts_of-starts.ensures) e.sizes e.entries e.n)

pub returns : goal.returns
returns g c =
    let e = c.rings-rings.ensures in
    c.run-2.ensures ∙ ap (λ (p : Plan). mapped (zero_padded 1186) (swept p)) (as_table c.args.fit.now.plan c.rings-rings.result (e.starts ∙ c.starts_of-starts.ensures) e.sizes e.entries e.n)
