-- put_rings meets its contract.
use Prim.Native.Nat.{ℕ, ◌+◌, ◌-◌}
use mathlib.Core.Path.{sym, ap, ◌∙◌}
use mathlib.Core.List.{List}
use native.Mathlib.Omega.{arith}
use lib.ListN.{take, drop}
use Rattle.lists.specs.Words.{bytes}
use Rattle.model.specs.File.{entry, rings_out}
use Rattle.rings.specs.Tables.{table}
use Rattle.rings.proofs.Rows.{start_first}
use Rattle.buffer.specs.declared.Buffer.{Buffer}
use Rattle.buffer.specs.Puts.{put}
use Rattle.buffer.proofs.Puts.{put-none, put_join}
use Rattle.file_writing.proofs.Texts.{rings_none, rings_more, ring_there, start_one}
use Rattle.file_writing.proofs.put_rings.Goals as goal

pub loop-u-init : goal.loop-u-init
loop-u-init c =
    let t = c.args.plan.now in
    (start_first t.sizes.now, sym (put-none c.args.to.now) ∙ ap (put c.args.to.now) (sym (rings_none t.sizes.now t.entries.now)))

pub overflow_add-i : goal.overflow_add-i
overflow_add-i c =
    let t = c.args.plan.now in
    let there = ring_there t.sizes.now t.entries.now c.requires.whole c.loop-u-test.true c.loop-u.invariant.0 c.number_at-k.ensures.value in
    let long = c.type_inv.plan in
    omega arith

pub offset_bounds-plan-i : goal.offset_bounds-plan-i
offset_bounds-plan-i c =
    let t = c.args.plan.now in
    let there = ring_there t.sizes.now t.entries.now c.requires.whole c.loop-u-test.true c.loop-u.invariant.0 c.number_at-k.ensures.value in
    let long = c.type_inv.plan in
    omega arith

pub slice_bounds-put_ring-end : goal.slice_bounds-put_ring-end
slice_bounds-put_ring-end c = let t = c.args.plan.now in ring_there t.sizes.now t.entries.now c.requires.whole c.loop-u-test.true c.loop-u.invariant.0 c.number_at-k.ensures.value

pub loop-u-preserved : goal.loop-u-preserved
loop-u-preserved c =
    let t = c.args.plan.now in
    let (at, so_far) = c.loop-u.invariant in
    let size = c.number_at-k.ensures.value in
    let there = ring_there t.sizes.now t.entries.now c.requires.whole c.loop-u-test.true at size in
    let next = start_one t.sizes.now t.entries.now c.loop-u.u in
    let few = c.requires.few in
    let i = c.loop-u.i in
    let ring : List ℕ = entry 2 (bytes (take (i + c.number_at-k.result - i) (drop i t.entries.now))) in
    let before = rings_out (table t.sizes.now t.entries.now c.loop-u.u).rings in
    (omega arith, c.put_ring.ensures ∙ ap (λ (b : Buffer). put b ring) so_far ∙ put_join c.args.to.now before ring ∙ ap (put c.args.to.now) (rings_more t.sizes.now t.entries.now (omega arith) at size there))
