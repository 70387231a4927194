-- What the loop of has_bad_inner keeps.
use Prim.Native.Nat.{ℕ}
use lib.ListN.{length, get_or}
use Rattle.lists.proofs.Folds.{FindsSome}
use Rattle.model.specs.Plan.{neighbour}
use Rattle.model.specs.Labels.{bad_dart}
use Rattle.rings.specs.Tables.{plan_of}
use Rattle.label_rules.proofs.Labelled.has_bad_inner.Given as goal

abbrev pub invariant-loop-i : goal.invariant-loop-i
invariant-loop-i l = FindsSome (λ (i : ℕ). bad_dart (plan_of l.self.rings) l.self.labels.now l.u (neighbour (get_or l.ring i 0))) 0 (length l.ring) l.i
