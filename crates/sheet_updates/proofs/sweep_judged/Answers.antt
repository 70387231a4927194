-- sweep_judged meets its contract.
use mathlib.Core.Path.{ap, ◌∙◌}
use Rattle.model.specs.Plan.{plan_rules}
use Rattle.sheet.specs.Sheets.{held_plan, rank}
use Rattle.sheet.proofs.Reading.{fitting_reached, rules_there}
use Rattle.sheet_updates.proofs.sweep_judged.Goals as goal

pub invariant_of-ruled : goal.invariant_of-ruled
unfolding rank
invariant_of-ruled c =
    let s = c.args.judged.sheet in
    let p = c.in_ok-fitting in
    let reached = fitting_reached s 1 c.require_fitting.result c.require_fitting.ensures.answer p.fitting p.was in
    record { kept = ap plan_rules (c.fit.ensures.plan ∙ ap held_plan p.ensures.lent) ∙ rules_there s reached c.args.judged.kept }
