-- What the loops of up_from keep.
use Rattle.lists.specs.Spans.{span}
use Rattle.model.specs.Labels.{up}
use Rattle.sweep_labelling.specs.Edges.{darts_to}
use Rattle.rings.specs.Tables.{plan_of}
use Rattle.sweep_labelling.proofs.Draws.{Draws}
use Rattle.sweep_labelling.proofs.Guided.up_from.Given as goal

abbrev pub invariant-loop-k : goal.invariant-loop-k
invariant-loop-k l = Draws (plan_of l.self.located.rings) up (darts_to l.u (span l.f l.fn.to.start l.fn.to.end)) l.initial.labels (darts_to l.u (span l.f l.k-iterator.start l.k-iterator.end)) l.labels
