-- What the loop of turn_pairs keeps.
use mathlib.Core.Path.{◌≡◌}
use lib.ListN.{length}
use Rattle.lists.specs.Parts.{pairs}
use Rattle.rings.specs.Tables.{plan_of}
use Rattle.turn.proofs.Turns.{Turns}
use Rattle.turn.proofs.FitLocated.turn_pairs.Given as goal

abbrev pub invariant-loop-k : goal.invariant-loop-k
invariant-loop-k l =
    (length l.turned ≡ 1186) × Turns (plan_of l.self.located.rings) l.q (pairs l.items) l.labels l.k l.turned
