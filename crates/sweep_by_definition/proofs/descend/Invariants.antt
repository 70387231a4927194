-- What the loops of descend keep.
use Prim.Native.Nat.{◌-◌}
use Rattle.rings.specs.Tables.{plan_of}
use Rattle.sweep_by_definition.specs.Steps.{Running}
use Rattle.sweep_by_definition.proofs.descend.Given as goal

abbrev pub invariant-loop : goal.invariant-loop
invariant-loop l = Running (plan_of l.guided.located.rings) (l.end - l.counter) l.frontier l.labels
