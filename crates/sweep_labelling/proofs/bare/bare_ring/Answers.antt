-- bare_ring meets its contract.
use mathlib.Core.Path.{refl, sym, ap, ◌∙◌}
use native.Mathlib.Omega.{arith}
use Rattle.rings.proofs.Rows.{ring-size}
use Rattle.sweep_labelling.proofs.Unlabelled.{adding_on, adding_end}
use Rattle.sweep_labelling.specs.Labelling as labelling
use Rattle.sweep_labelling.proofs.bare.bare_ring.Goals as goal

pub loop-t-preserved : goal.loop-t-preserved
loop-t-preserved c =
    let a = c.args in
    let size = c.size_of-t-end.ensures.value ∙ sym (ring-size a.rings.now.starts.now a.rings.now.sizes.now a.rings.now.entries.now a.rings.now.n a.u) in
    adding_on c.loop-t.invariant refl (omega arith) refl (c.bare_label.ensures ∙ ap (labelling.bare_label a.u) c.neighbour_at.ensures) c.put.ensures

pub returns : goal.returns
returns c =
    let a = c.args in
    let size = c.size_of-t-end.ensures.value ∙ sym (ring-size a.rings.now.starts.now a.rings.now.sizes.now a.rings.now.entries.now a.rings.now.n a.u) in
    adding_end c.loop-t.invariant (omega arith)
