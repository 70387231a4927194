-- note_ring meets its contract.
use mathlib.Core.Path.{ap, ◌∙◌}
use mathlib.Core.List.{List}
use Prim.Native.Nat.{ℕ}
use lib.ListN.{get_or}
use Rattle.ring_successors.specs.Successors.{note_ring}
use Rattle.ring_successors.proofs.Notes.{ring-part}
use Rattle.ring_successors.proofs.note_ring.Goals as goal

pub returns-in-Some-clause-table_after : goal.returns-in-Some-clause-table_after
returns-in-Some-clause-table_after c =
    let r = c.args.rings.now in
    let s = c.span-start.ensures in
    let part = c.in-Some.ensures.lookup.0 in
    let same = ring-part r.starts.now r.sizes.now r.entries.now r.n c.args.u s.start s.end part.1 part.2 in
    c.note_entries.ensures.table_after ∙ ap (λ (l : List ℕ). (note_ring c.args.u (get_or l 0 0) l (c.args.table.now, c.args.clear)).0) same

pub returns-in-Some-clause-value : goal.returns-in-Some-clause-value
returns-in-Some-clause-value c =
    let r = c.args.rings.now in
    let s = c.span-start.ensures in
    let part = c.in-Some.ensures.lookup.0 in
    let same = ring-part r.starts.now r.sizes.now r.entries.now r.n c.args.u s.start s.end part.1 part.2 in
    c.note_entries.ensures.value ∙ ap (λ (l : List ℕ). (note_ring c.args.u (get_or l 0 0) l (c.args.table.now, c.args.clear)).1) same
