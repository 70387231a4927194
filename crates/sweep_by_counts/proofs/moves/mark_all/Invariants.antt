-- What the loops of mark_all keep.
use Rattle.sweep_by_counts.proofs.Counts.{Marked}
use Rattle.sweep_by_counts.proofs.moves.mark_all.Given as goal

abbrev pub invariant-loop-c : goal.invariant-loop-c
invariant-loop-c l = Marked l.contexts l.initial.marks l.c-index l.marks
