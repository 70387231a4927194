-- entry_count meets its contract.
use mathlib.Core.Path.{refl, sym, ◌∙◌}
use native.Mathlib.Omega.{arith}
use Rattle.rings.proofs.Rows.{ring-size, count-rows}
use Rattle.sweep_labelling.proofs.Unlabelled.{counted_on, counted_end, counted-room}
use Rattle.sweep_labelling.proofs.bare.entry_count.Goals as goal

pub overflow_add-k : goal.overflow_add-k
overflow_add-k c = let r = counted-room c.loop-u.invariant c.requires in let s = c.size_of-k.ensures.upper_bound in omega arith

pub loop-u-preserved : goal.loop-u-preserved
loop-u-preserved c =
    let r = c.args.rings.now in
    counted_on c.loop-u.invariant refl (c.size_of-k.ensures.value ∙ sym (ring-size r.starts.now r.sizes.now r.entries.now r.n c.loop-u.u)) refl

pub returns : goal.returns
returns c =
    let r = c.args.rings.now in
    let n = count-rows r.starts.now r.sizes.now r.entries.now r.n in
    counted_end c.loop-u.invariant (omega arith)
