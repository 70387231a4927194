-- What the loop of run keeps.
use Prim.Native.Nat.{◌-◌}
use Rattle.rings.specs.Tables.{plan_of}
use Rattle.sweep_by_counts.specs.Running.{RunningBelow}
use Rattle.sweep_by_counts.proofs.CountingSweep.run.Given as goal

abbrev pub invariant-loop : goal.invariant-loop
invariant-loop l = RunningBelow (plan_of l.self.guided.located.rings) (l.end - l.counter) l.limit l.course
