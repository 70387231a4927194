-- four_runs meets its contract.
use mathlib.Core.Path.{refl}
use Rattle.labels.proofs.Rounds.{weighs_on}
use Rattle.labels.proofs.runs.four_runs.Goals as goal

pub loop-label-preserved : goal.loop-label-preserved
loop-label-preserved c = weighs_on c.loop-label.invariant c.loop-label-test.true refl c.change_weight.ensures.value c.saturating_add-changes.ensures
