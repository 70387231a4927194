-- What the loops of add_below keep.
use Prim.Native.Nat.{ℕ}
use lib.ListN.{get_or}
use Rattle.lists.proofs.Folds.{FoldsDown}
use Rattle.sweep_frontier.specs.Frontiers.{lent_frontier, entries_read}
use Rattle.sweep_by_definition.specs.Lists as run
use Rattle.sweep_by_definition.proofs.list.add_below.Given as goal

abbrev pub invariant-loop-t : goal.invariant-loop-t
invariant-loop-t l = FoldsDown (λ (i : ℕ) v. run.added v (get_or (entries_read l.below) i 0)) l.q (lent_frontier l.initial.grown l.initial.at l.initial.marks) l.t (lent_frontier l.grown l.at l.marks)
