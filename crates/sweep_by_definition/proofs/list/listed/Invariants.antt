-- What the loops of listed keep.
use mathlib.Core.Path.{◌≡◌}
use mathlib.Core.Bool.{true}
use Rattle.rings.specs.Tables.{plan_of}
use Rattle.lists.proofs.Folds.{FoldsUp}
use Rattle.sweep_frontier.specs.Frontiers.{frontier_of}
use Rattle.sweep_by_definition.specs.Lists as run
use Rattle.sweep_by_definition.proofs.list.listed.Given as goal

abbrev pub invariant-loop-k : goal.invariant-loop-k
invariant-loop-k l =
    let step = run.below_added (plan_of l.front.located.rings) l.front.f.now in
    (l.k-iterator.end ≡ l.fn.positions.end) × FoldsUp step l.fn.positions.start l.fn.positions.end (frontier_of true 0 l.initial.at l.initial.marks) l.k-iterator.start (frontier_of true l.len l.at l.marks)
