-- What the loops of raise keep.
use Prim.Native.Nat.{◌-◌}
use Rattle.model.specs.Plan.{ring}
use Rattle.rings.specs.Tables.{plan_of}
use Rattle.sweep_by_counts.proofs.Counts.{Raises}
use Rattle.sweep_by_counts.proofs.moves.raise.Given as goal

abbrev pub invariant-loop-i : goal.invariant-loop-i
invariant-loop-i l = Raises (ring (plan_of l.rings) l.u) l.initial.counts (l.i - l.start) l.counts
