-- What the loop of note_missing keeps.
use Prim.Native.Nat.{◌≤◌}
use lib.ListN.{get_or}
use Rattle.model.specs.Plan.{neighbour}
use Rattle.ring_successors.proofs.Notes.{Back}
use Rattle.ring_successors.proofs.note_missing.Given as goal

abbrev pub invariant-loop-i : goal.invariant-loop-i
invariant-loop-i l = (l.start ≤ l.i) × (l.i ≤ l.end) × Back l.u (neighbour (get_or l.rings.entries.now l.start 0)) l.rings.entries.now l.end (l.initial.table, l.clear) l.i (l.table, l.still) l.after
