-- first_frontier meets its contract.
use mathlib.Core.Path.{sym, ap, ◌∙◌}
use mathlib.Core.Bool.{true}
use Rattle.sweep_frontier.specs.Frontiers as run
use Rattle.sweep_frontier.proofs.Fails.{unless_failed_is, unless_failed_yes}
use Rattle.rings.specs.Tables.{plan_of}
use Rattle.sweep_ends.specs.Ends.{first_contexts, marked, first_frontier}
use Rattle.sweep_ends.proofs.first_frontier.Goals as goal

pub returns-clause-value : goal.returns-clause-value
unfolding first_frontier
returns-clause-value c =
    let p = plan_of c.args.rings.now in
    let v = c.in_ok-frontier.frontier in
    let same = sym (unless_failed_is (first_contexts p) (sym c.front.ensures.value ∙ c.in_ok-frontier.was)) in
    unless_failed_yes (ap (run.frontier_of true v.len v.at) c.marked-frontier.ensures ∙ ap (λ (w : run.Frontier). run.frontier_of w.ok w.len w.at (marked w.at w.len)) same)
