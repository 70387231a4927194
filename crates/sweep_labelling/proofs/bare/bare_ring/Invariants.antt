-- What the loops of bare_ring keep.
use Rattle.rings.specs.Tables.{plan_of}
use Rattle.sweep_labelling.proofs.Unlabelled.{Adding}
use Rattle.sweep_labelling.proofs.bare.bare_ring.Given as goal

abbrev pub invariant-loop-t : goal.invariant-loop-t
invariant-loop-t l = Adding (plan_of l.rings) l.k l.u l.initial.labels l.t l.labels
