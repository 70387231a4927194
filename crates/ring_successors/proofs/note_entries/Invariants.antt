-- What the loop of note_entries keeps.
use Prim.Native.Nat.{◌≤◌}
use lib.ListN.{length, get_or}
use Rattle.model.specs.Plan.{neighbour}
use Rattle.ring_successors.proofs.Notes.{Back}
use Rattle.ring_successors.proofs.note_entries.Given as goal

abbrev pub invariant-loop-i : goal.invariant-loop-i
invariant-loop-i l = let es = l.entries in (l.i ≤ length es) × Back l.u (neighbour (get_or es 0 0)) es (length es) (l.initial.table, l.clear) l.i (l.table, l.still) l.after
