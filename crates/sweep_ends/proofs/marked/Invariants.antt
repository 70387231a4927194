-- What the loops of marked keep.
use Prim.Native.Nat.{ℕ}
use lib.ListN.{get_or, set}
use Rattle.lists.proofs.Folds.{FoldsUp}
use Rattle.sweep_ends.proofs.marked.Given as goal

abbrev pub invariant-loop-k : goal.invariant-loop-k
invariant-loop-k l = FoldsUp (λ (i : ℕ) marks. set marks (get_or l.frontier.at i 0) 1) 0 l.frontier.len l.initial.marks l.k l.marks
