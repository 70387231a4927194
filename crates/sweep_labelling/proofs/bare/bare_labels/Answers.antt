-- bare_labels meets its contract.
use mathlib.Core.Path.{refl, sym, ◌∙◌}
use native.Mathlib.Omega.{arith}
use borrow.Author.Rules.{rules}
use Rattle.lists.specs.Spans.{zeros}
use Rattle.rings.proofs.Rows.{ring-size, count-rows}
use Rattle.sweep_labelling.proofs.Unlabelled.{filled-start, filled_on, filled_end, filled-room}
use Rattle.sweep_labelling.proofs.bare.bare_labels.Goals as goal

pub loop-u-init : goal.loop-u-init
unfolding zeros
loop-u-init c = filled-start refl

pub bare_ring-requires : goal.bare_ring-requires
bare_ring-requires c = let most = c.requires in let r = filled-room c.loop-u.invariant refl in omega arith

pub overflow_add-k : goal.overflow_add-k
overflow_add-k c = let most = c.requires in let r = filled-room c.loop-u.invariant refl in let s = c.size_of-k.ensures.upper_bound in omega arith

pub loop-u-preserved : goal.loop-u-preserved
loop-u-preserved c =
    let a = c.args in
    let n = count-rows a.rings.now.starts.now a.rings.now.sizes.now a.rings.now.entries.now a.rings.now.n in
    let size = c.size_of-k.ensures.value ∙ sym (ring-size a.rings.now.starts.now a.rings.now.sizes.now a.rings.now.entries.now a.rings.now.n c.loop-u.u) in
    filled_on c.loop-u.invariant (omega arith) c.requires refl size refl c.bare_ring.ensures

pub slice_bounds-b-start : goal.slice_bounds-b-start
slice_bounds-b-start c = filled-room c.loop-u.invariant c.entry_count-end.ensures

pub slice_bounds-fill-count : goal.slice_bounds-fill-count
slice_bounds-fill-count c = filled-room c.loop-u.invariant c.entry_count-end.ensures

pub returns : goal.returns
returns c =
    let a = c.args in
    let n = count-rows a.rings.now.starts.now a.rings.now.sizes.now a.rings.now.entries.now a.rings.now.n in
    let four = c.min-u-end.ensures in
    filled_end c.loop-u.invariant (omega arith) c.entry_count-end.ensures (search rules)
