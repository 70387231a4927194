-- What the loop of has_unconfirmed keeps.
use Prim.Native.Nat.{◌-◌}
use mathlib.Core.List.{map}
use lib.ListN.{get_or}
use Rattle.lists.specs.Spans.{span}
use Rattle.model.specs.Plan.{neighbour}
use Rattle.plan_check.specs.Sound.{some_unconfirmed}
use Rattle.plan_check.proofs.Confirming.{Round}
use Rattle.plan_check.proofs.has_unconfirmed.Given as goal

abbrev pub invariant-loop-i : goal.invariant-loop-i
invariant-loop-i l =
    let es = l.rings.entries.now in
    Round l.table l.u es l.end (some_unconfirmed l.table l.u (neighbour (get_or es (l.end - 1) 0)) (map neighbour (span es l.start l.end))) l.i l.before
