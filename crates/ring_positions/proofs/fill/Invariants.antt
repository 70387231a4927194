-- What the loops of fill keep.
use Rattle.rings.specs.Tables.{plan_of}
use Rattle.ring_positions.proofs.Notes.{Notes}
use Rattle.ring_positions.proofs.fill.Given as goal

abbrev pub invariant-loop-u : goal.invariant-loop-u
invariant-loop-u l = Notes (plan_of l.rings) l.fn.table l.u 0 l.table

abbrev pub invariant-loop-i : goal.invariant-loop-i
invariant-loop-i l = Notes (plan_of l.rings) l.fn.table l.u l.i l.table

abbrev pub invariant-loop-i-2 : goal.invariant-loop-i-2
invariant-loop-i-2 l = Notes (plan_of l.rings) l.fn.table l.u l.i l.table
