-- What the loops of right_along keep.
use Rattle.lists.specs.Spans.{span}
use Rattle.lists.specs.Parts.{steps}
use Rattle.model.specs.Labels.{right}
use Rattle.rings.specs.Tables.{plan_of}
use Rattle.sweep_labelling.proofs.Draws.{Draws}
use Rattle.sweep_labelling.proofs.Guided.right_along.Given as goal

abbrev pub invariant-loop-k : goal.invariant-loop-k
invariant-loop-k l = Draws (plan_of l.self.located.rings) right (steps (span l.f l.fn.along.start l.fn.along.end)) l.initial.labels (steps (span l.f l.k l.fn.along.end)) l.labels
