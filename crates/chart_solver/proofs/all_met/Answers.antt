-- all_met meets its contract.
use Rattle.std.proofs.Common.{rules, tests}
use mathlib.Core.Path.{◌∙◌}
use Rattle.std.proofs.lemmas.Iterator.{YieldsList-from_slice}
use Rattle.std.proofs.lemmas.Iterator.Search.{all_from_yields_List}
use Rattle.model.specs.Chart.{meets}
use Rattle.chart_solver.specs.Constraints.{constraint_of}
use Rattle.chart_solver.specs.declared.Constraint.{Constraint}
use Rattle.chart_solver.proofs.Listed.{all-listed}
use Rattle.chart_solver.proofs.all_met.Goals as goal

pub returns : goal.returns
returns c =
    let xs = c.args.constraints.now in
    all_from_yields_List (λ (x : Constraint). meets c.args.at.now (constraint_of x)) _ _ c.all.result c.all.ensures.ran (YieldsList-from_slice xs cc) (λ x b q k. search (rules, tests)) ∙ all-listed c.args.at.now xs
