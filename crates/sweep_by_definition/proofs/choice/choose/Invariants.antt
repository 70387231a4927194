-- What the loops of choose keep.
use mathlib.Core.Path.{◌≡◌}
use Rattle.model.specs.Sweep.{State, choose, choices}
use Rattle.rings.specs.Tables.{plan_of}
use Rattle.sweep_by_definition.specs.Search.{Begins}
use Rattle.sweep_by_definition.proofs.Rows.{pairs}
use Rattle.sweep_by_definition.proofs.choice.choose.Given as goal

abbrev pub invariant-loop-j : goal.invariant-loop-j
invariant-loop-j l = let p = plan_of l.front.located.rings in (s : State) → Begins l.front l.m l.marks s → choose p s (choices s.frontier) ≡ choose p s (pairs l.j)
