-- What the loops of raise_all keep.
use Rattle.rings.specs.Tables.{plan_of}
use Rattle.sweep_by_counts.proofs.Counts.{Raised}
use Rattle.sweep_by_counts.proofs.moves.raise_all.Given as goal

abbrev pub invariant-loop-c : goal.invariant-loop-c
invariant-loop-c l = Raised (plan_of l.rings) l.contexts l.initial.counts l.c-index l.counts
