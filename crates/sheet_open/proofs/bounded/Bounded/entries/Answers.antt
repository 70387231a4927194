-- entries meets its contract.
use mathlib.Core.Path.{refl}
use native.Mathlib.Omega.{arith}
use Rattle.sheet_open.proofs.Copies.{copies_start, copies_room, copies_fit, copies_ring, copies_end}
use Rattle.sheet_open.proofs.bounded.Bounded.entries.Goals as goal

pub loop-u-init : goal.loop-u-init
loop-u-init c = copies_start refl

pub overflow_add-at : goal.overflow_add-at
overflow_add-at c = let r = copies_room c.loop-u.invariant c.args.self.now.room c.loop-u-test.true c.number_at-k.ensures.value in omega arith

pub offset_bounds-entries-at : goal.offset_bounds-entries-at
offset_bounds-entries-at c = let r = copies_room c.loop-u.invariant c.args.self.now.room c.loop-u-test.true c.number_at-k.ensures.value in omega arith

pub slice_bounds-entries-end : goal.slice_bounds-entries-end
slice_bounds-entries-end c = copies_fit c.loop-u.invariant c.args.self.now.room c.loop-u-test.true c.number_at-k.ensures.value c.type_inv.entries

pub copy_words-requires : goal.copy_words-requires
copy_words-requires c = let r = copies_room c.loop-u.invariant c.args.self.now.room c.loop-u-test.true c.number_at-k.ensures.value in let few = c.args.self.now.layout.now.few in omega (arith, c.entry_offset.ensures)

pub loop-u-preserved : goal.loop-u-preserved
loop-u-preserved c =
    let held = c.args.self.now in
    copies_ring c.loop-u.invariant held.room held.layout.now.few c.loop-u-test.true c.number_at-k.ensures.value c.number_at-k.array_long c.entry_offset.ensures c.copy_words.ensures refl refl (omega arith)

pub returns : goal.returns
returns c = copies_end c.loop-u.invariant c.args.self.now.room (omega arith)
