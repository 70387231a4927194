-- What the loops of up_between keep.
use Rattle.lists.specs.Spans.{span}
use Rattle.model.specs.Labels.{up}
use Rattle.model.specs.Sweep.{all_pairs}
use Rattle.rings.specs.Tables.{plan_of}
use Rattle.sweep_labelling.proofs.Draws.{Draws}
use Rattle.sweep_labelling.proofs.Guided.up_between.Given as goal

abbrev pub invariant-loop-k : goal.invariant-loop-k
invariant-loop-k l =
    let above = span l.f l.fn.to.start l.fn.to.end in
    Draws (plan_of l.self.located.rings) up (all_pairs (span l.g l.fn.from.start l.fn.from.end) above) l.initial.labels (all_pairs (span l.g l.k-iterator.start l.k-iterator.end) above) l.labels
