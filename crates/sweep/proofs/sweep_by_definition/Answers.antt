-- sweep_by_definition meets its contract.
use mathlib.Core.Bool.{false≢true}
use Rattle.sweep.proofs.sweep_by_definition.Goals as goal

pub tested-requires : goal.tested-requires
tested-requires c = λ yes. absurd (false≢true yes)
