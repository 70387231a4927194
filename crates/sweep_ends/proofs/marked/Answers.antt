-- marked meets its contract.
use mathlib.Core.Path.{◌∙◌}
use native.Mathlib.Omega.{arith}
use lib.ListN.{set}
use Rattle.lists.proofs.Folds.{folds_up_on}
use Rattle.sweep_ends.proofs.marked.Goals as goal

pub loop-k-preserved : goal.loop-k-preserved
loop-k-preserved c = folds_up_on c.loop-k.invariant (omega arith) (c.put.ensures ∙ λ i. set c.loop-k.marks (c.number_at.ensures.value i) 1)
