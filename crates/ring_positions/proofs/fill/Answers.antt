-- fill meets its contract.
use Prim.Native.Nat.{ℕ, ◌+◌}
use mathlib.Core.Path.{refl, sym, ap, subst, ◌∙◌}
use mathlib.Core.List.{List}
use native.Mathlib.Omega.{arith}
use Rattle.model.specs.Plan.{neighbour}
use Rattle.rings.specs.Tables.{plan_of}
use Rattle.rings.proofs.Rows.{count-rows, ring-size}
use Rattle.ring_positions.proofs.Notes.{Notes, notes_start, notes_on, notes_next, notes_end, part-at}
use Rattle.ring_positions.proofs.fill.Goals.{in-Some+else-loop-i-test, in-None+else-loop-i-2-test}
use Rattle.ring_positions.proofs.fill.Goals as goal

pub loop-u-init : goal.loop-u-init
loop-u-init c = notes_start

pub loop-i-preserved : goal.loop-i-preserved
loop-i-preserved c =
    let r = c.args.rings.now in
    let fit = c.min-m.ensures in
    let size = c.size_of-k.ensures.value in
    let part = c.in-Some.ensures.lookup.0 in
    let long = ring-size r.starts.now r.sizes.now r.entries.now r.n c.loop-u.u in
    let same = part-at r.starts.now r.sizes.now r.entries.now r.n c.loop-u.u {i = c.loop-i.i} c.number_at-start.ensures.value size part.1 part.2 c.loop-i-test.true in
    let v = c.neighbour_of-v.ensures ∙ ap neighbour c.from.ensures ∙ same in
    notes_on c.loop-i.invariant (omega arith) (omega arith) v (omega arith) refl c.note.ensures

pub loop-i-2-preserved : goal.loop-i-2-preserved
loop-i-2-preserved c =
    let r = c.args.rings.now in
    let fit = c.min-m.ensures in
    let size = c.size_of-k.ensures.value in
    let long = ring-size r.starts.now r.sizes.now r.entries.now r.n c.loop-u.u in
    notes_on c.loop-i-2.invariant (omega arith) (omega arith) c.neighbour_at.ensures (omega arith) refl c.note-in-loop-i-2.ensures

pub loop-u-preserved : goal.loop-u-preserved
loop-u-preserved c =
    let r = c.args.rings.now in
    let size = c.size_of-k.ensures.value in
    let long = ring-size r.starts.now r.sizes.now r.entries.now r.n c.loop-u.u in
    let noted : List ℕ → Type 0 = Notes (plan_of r) c.args.table.now (c.loop-u.u + 1) 0 in
    elim c.match-get.branch [
      | in-Some+else-loop-i-test w ↦ subst noted (sym w.table-is) (notes_next w.loop-i.invariant (omega arith) (omega arith))
      | in-None+else-loop-i-2-test w ↦ subst noted (sym w.table-is) (notes_next w.loop-i-2.invariant (omega arith) (omega arith))
    ]

pub returns : goal.returns
returns c =
    let r = c.args.rings.now in
    let fit = c.min-m.ensures in
    let all = count-rows r.starts.now r.sizes.now r.entries.now r.n in
    notes_end c.loop-u.invariant (omega arith)
