-- What the loops of append keep.
use mathlib.Core.Path.{◌≡◌}
use mathlib.Core.List.{List}
use Prim.Native.Nat.{ℕ}
use Rattle.std.specs.Prelude.{fold}
use Rattle.lists.specs.Spans.{span}
use Rattle.sweep_frontier.specs.Frontiers.{pushed, lent_frontier}
use Rattle.sweep_by_definition.proofs.list.append.Given as goal

abbrev pub invariant-loop-k : goal.invariant-loop-k
invariant-loop-k l =
    let all = span l.f l.fn.positions.start l.fn.positions.end in
    let left = span l.f l.k-iterator.start l.k-iterator.end in
    (marks : List ℕ) → fold pushed (lent_frontier l.initial.grown l.initial.at marks) all ≡ fold pushed (lent_frontier l.grown l.at marks) left
