-- What the loops of bad_repeat keep.
use Rattle.lists.proofs.Marks.{Marks}
use Rattle.model.specs.Plan.{ring}
use Rattle.file_rings.specs.Plans.{plan_of_file}
use Rattle.file_ring_rules.proofs.Bits.{bits}
use Rattle.file_ring_rules.proofs.bad_repeat.Given as goal

abbrev pub invariant-loop-i : goal.invariant-loop-i
invariant-loop-i l = Marks 256 (ring (plan_of_file l.rings) l.u) l.e l.i (bits l.marks)
