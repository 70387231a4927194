-- What the loops of front keep.
use mathlib.Core.Bool.{true}
use Prim.Native.Nat.{ℕ, suc, ◌-◌}
use lib.ListN.{length, get_or}
use Rattle.lists.specs.Spans.{zeros}
use Rattle.model.specs.Plan.{ring}
use Rattle.rings.specs.Tables.{plan_of}
use Rattle.lists.proofs.Folds.{FoldsDown}
use Rattle.sweep_frontier.specs.Frontiers as run
use Rattle.sweep_ends.proofs.front.Given as goal

abbrev pub invariant-loop-t : goal.invariant-loop-t
invariant-loop-t l =
    let r = ring (plan_of l.rings) 0 in
    FoldsDown (λ (i : ℕ) w. run.pushed w (get_or r (suc i) 0)) (length r - 2) (run.pushed (run.empty_frontier (zeros 256)) 3) l.t (run.frontier_of true l.len l.at (zeros 256))
