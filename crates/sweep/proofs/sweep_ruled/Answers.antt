-- sweep_ruled meets its contract.
use Rattle.model.proofs.PlanRules as rules
use Rattle.sweep.proofs.sweep_ruled.Goals as goal

pub tested-requires : goal.tested-requires
tested-requires c = λ _. rules.sound _ c.args.ruled.now.kept
