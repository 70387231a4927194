-- What the loops of fill keep.
use Rattle.file_rings.specs.Plans.{plan_of_file}
use Rattle.ring_positions.proofs.Notes.{Notes}
use Rattle.file_ring_rules.proofs.located.fill.Given as goal

abbrev pub invariant-loop-u : goal.invariant-loop-u
invariant-loop-u l = Notes (plan_of_file l.rings) l.fn.table l.u 0 l.table

abbrev pub invariant-loop-i : goal.invariant-loop-i
invariant-loop-i l = Notes (plan_of_file l.rings) l.fn.table l.u l.i l.table
