-- settled meets its contract.
use mathlib.Core.Path.{sym, ◌∙◌}
use borrow.Author.Tests.{not-true, not-false}
use Rattle.model.specs.Sweep.{finished}
use Rattle.rings.specs.Tables.{plan_of}
use Rattle.sweep_frontier.specs.Frontiers.{whole}
use Rattle.sweep_ends.proofs.Finishing.{open_is}
use Rattle.sweep_labelling.proofs.Frontiers.{finish_labelled}
use Rattle.sweep_by_counts.proofs.Runs.{settled_done, settled_stuck}
use Rattle.sweep_by_counts.proofs.CountingSweep.settled.Goals as goal

pub returns-then-is_unfinished : goal.returns-then-is_unfinished
returns-then-is_unfinished c =
    let t = c.requires in
    let p = plan_of c.args.self.now.guided.located.rings in
    let frontier = c.args.last.frontier in
    let told = c.is_unfinished.ensures ∙ open_is p t.state (whole frontier) t.holds.front in
    settled_stuck t (not-true (finished p t.state.frontier) (sym told ∙ c.if-is_unfinished.true))

pub returns : goal.returns
returns c =
    let t = c.requires in
    let p = plan_of c.args.self.now.guided.located.rings in
    let frontier = c.args.last.frontier in
    let rep = t.holds.front.rep in
    let told = c.is_unfinished.ensures ∙ open_is p t.state (whole frontier) t.holds.front in
    settled_done t (not-false (finished p t.state.frontier) (sym told ∙ c.if-is_unfinished.false)) (c.finish_labels.ensures ∙ finish_labelled p t.holds.labels rep.at rep.len)
