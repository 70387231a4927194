-- is_all_fair meets its contract.
use Rattle.std.proofs.Common.{rules, tests}
use mathlib.Core.Path.{◌∙◌}
use Rattle.std.proofs.lemmas.Iterator.{YieldsList-from_slice}
use Rattle.std.proofs.lemmas.Iterator.Search.{all_from_yields_List}
use Rattle.sweep_by_counts.specs.Picks.{fair_on}
use Rattle.sweep_by_counts.proofs.Tests.{all_list}
use Rattle.sweep_by_counts.proofs.pick.View.is_all_fair.Goals as goal

pub returns : goal.returns
returns c =
    let l = c.args.list.now in
    let fair = fair_on c.args.self.now.course.now c.args.i c.args.j l in
    all_from_yields_List fair _ _ c.all.result c.all.ensures.ran (YieldsList-from_slice l cc) (λ x b q k. search (rules, tests)) ∙ all_list fair l
