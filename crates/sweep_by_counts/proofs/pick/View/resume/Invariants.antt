-- What the loops of resume keep.
use Rattle.rings.specs.Tables.{plan_of}
use Rattle.sweep_by_counts.proofs.Singles.{Rises}
use Rattle.sweep_by_counts.proofs.pick.View.resume.Given as goal

abbrev pub invariant-loop-t : goal.invariant-loop-t
invariant-loop-t l = Rises (plan_of l.self.located.rings) l.self.course.now.frontier.at l.k l.m l.t
