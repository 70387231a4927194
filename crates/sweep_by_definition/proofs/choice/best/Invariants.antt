-- What the loops of best keep.
use Prim.Native.Nat.{ℕ, ◌-◌, ◌<◌}
use mathlib.Core.Path.{◌≡◌}
use mathlib.Core.List.{List, ◌++◌}
use Rattle.model.specs.Sweep.{State, choose}
use Rattle.rings.specs.Tables.{plan_of}
use Rattle.sweep_by_definition.specs.Search.{Begins, pair_row}
use Rattle.sweep_by_definition.proofs.choice.best.Given as goal

abbrev pub invariant-loop-k : goal.invariant-loop-k
invariant-loop-k l =
    let p = plan_of l.front.located.rings in
    (s : State) → Begins l.front l.m l.marks s → l.j < l.m → (others : List (ℕ × ℕ)) → choose p s (pair_row l.j (l.j - 1) ++ others) ≡ choose p s (pair_row l.j (l.k - 1) ++ others)
