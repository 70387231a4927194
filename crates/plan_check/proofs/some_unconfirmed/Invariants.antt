-- What the loop of some_unconfirmed keeps.
use mathlib.Core.List.{map}
use lib.ListN.{length}
use Rattle.model.specs.Plan.{neighbour}
use Rattle.plan_check.specs.Sound.{some_unconfirmed}
use Rattle.plan_check.proofs.Confirming.{Round}
use Rattle.plan_check.proofs.some_unconfirmed.Given as goal

abbrev pub invariant-loop-i : goal.invariant-loop-i
invariant-loop-i l = Round l.table l.u l.entries (length l.entries) (some_unconfirmed l.table l.u l.w (map neighbour l.entries)) l.i l.before
