-- What the loop of has_wrong keeps.
use Prim.Native.Nat.{ℕ, ◌≤◌}
use lib.ListN.{get_or}
use Rattle.lists.proofs.Folds.{FindsSome}
use Rattle.model.specs.Plan.{neighbour}
use Rattle.rings.specs.Tables.{plan_of}
use Rattle.label_rules.specs.LabelBy.{wrong_dart}
use Rattle.label_rules.proofs.Labelled.has_wrong.Given as goal

abbrev pub invariant-loop-i : goal.invariant-loop-i
invariant-loop-i l = (l.start ≤ l.i) × FindsSome (λ (i : ℕ). wrong_dart (plan_of l.self.rings) l.self.labels.now l.u (neighbour (get_or l.self.rings.entries.now i 0))) l.start l.end l.i
