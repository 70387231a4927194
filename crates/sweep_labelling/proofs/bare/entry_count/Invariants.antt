-- What the loop of entry_count keeps.
use Rattle.rings.specs.Tables.{plan_of}
use Rattle.sweep_labelling.proofs.Unlabelled.{Counted}
use Rattle.sweep_labelling.proofs.bare.entry_count.Given as goal

abbrev pub invariant-loop-u : goal.invariant-loop-u
invariant-loop-u l = Counted (plan_of l.rings) l.u l.k
