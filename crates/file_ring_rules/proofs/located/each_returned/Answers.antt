-- each_returned meets its contract.
use mathlib.Core.Path.{refl, sym}
use native.Mathlib.Omega.{arith}
use Rattle.file_rings.proofs.Rings.{count-lent}
use Rattle.ring_positions.proofs.Notes.{finds-filled}
use Rattle.file_ring_rules.proofs.located.each_returned.Goals as goal

pub whole_as_slice-fill : goal.whole_as_slice-fill
whole_as_slice-fill g c = let r = c.requires in omega arith

pub shared_whole_as_slice-located : goal.shared_whole_as_slice-located
shared_whole_as_slice-located g c = let r = c.requires in omega arith

pub invariant_of-located : goal.invariant_of-located
invariant_of-located g c =
    let r = c.args.rings.now in
    let room = c.requires in
    record { own = finds-filled _ {k = g.row.N} (sym (count-lent r.starts.now r.sizes.now r.file.now r.n)) (omega arith) refl c.fill.ensures }
