-- What the loops of bare_labels keep.
use Rattle.rings.specs.Tables.{plan_of}
use Rattle.sweep_labelling.proofs.Unlabelled.{Filled}
use Rattle.sweep_labelling.proofs.bare.bare_labels.Given as goal

abbrev pub invariant-loop-u : goal.invariant-loop-u
invariant-loop-u l = Filled (plan_of l.rings) l.b l.k l.u
