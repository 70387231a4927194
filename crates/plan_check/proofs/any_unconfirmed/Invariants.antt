-- What the loop of any_unconfirmed keeps.
use Rattle.lists.proofs.Folds.{FindsSome}
use Rattle.rings.specs.Tables.{plan_of}
use Rattle.plan_check.specs.Sound.{has_unconfirmed}
use Rattle.plan_check.proofs.any_unconfirmed.Given as goal

abbrev pub invariant-loop-u : goal.invariant-loop-u
invariant-loop-u l = FindsSome (has_unconfirmed l.table (plan_of l.rings)) 0 l.rings.n l.u
