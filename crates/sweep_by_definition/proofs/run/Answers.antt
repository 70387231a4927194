-- run meets its contract.
use mathlib.Core.Path.{◌≡◌, sym, ◌∙◌}
use Rattle.std.proofs.Common.{None, Some}
use Rattle.rings.specs.Tables.{plan_of}
use Rattle.rings.proofs.Rows.{count-rows}
use Rattle.sweep_frontier.proofs.Fails.{unless_failed_is}
use Rattle.sweep_ends.specs.Ends.{first_frontier}
use Rattle.sweep_by_definition.proofs.Steps.{running_start}
use Rattle.sweep_ends.proofs.Beginning.{first_whole}
use native.Mathlib.Omega.{arith}
use Rattle.sweep_by_definition.proofs.run.Goals as goal

pub returns-in_err-first : goal.returns-in_err-first
returns-in_err-first c =
    let g = c.args.guided.now.guide in
    let north = c.first_frontier.ensures.north in
    let none : c.first_frontier.result ≡ None = grind arith in
    absurd (first_whole _ g.sane (omega arith) (sym c.first_frontier.ensures.value ∙ none))

pub descend-requires : goal.descend-requires
descend-requires c =
    let g = c.args.guided.now.guide in
    let r = c.args.guided.now.located.rings in
    let north = c.first_frontier.ensures.north in
    let some : c.first_frontier.result ≡ Some c.in_ok-first.first = grind arith in
    let first = unless_failed_is (first_frontier (plan_of r)) (sym c.first_frontier.ensures.value ∙ some) in
    running_start g.sane (omega arith) (sym (count-rows r.starts.now r.sizes.now r.entries.now r.n)) (sym first) c.first_labels-labels.ensures
