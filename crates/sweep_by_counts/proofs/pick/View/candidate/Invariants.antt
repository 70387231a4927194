-- What the loops of candidate keep.
use Prim.Native.Nat.{◌-◌}
use Rattle.rings.specs.Tables.{plan_of}
use Rattle.sweep_by_counts.proofs.Singles.{Falls}
use Rattle.sweep_by_counts.proofs.pick.View.candidate.Given as goal

abbrev pub invariant-loop-k : goal.invariant-loop-k
invariant-loop-k l = Falls (plan_of l.self.located.rings) l.self.course.now.frontier.at (l.j - 1) l.k
