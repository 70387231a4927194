-- add_below meets its contract.
use mathlib.Core.Path.{refl, ap, ◌∙◌}
use mathlib.Core.Bool.{true}
use native.Mathlib.Omega.{arith}
use Rattle.lists.proofs.Folds.{folds_down_on, folds_down_end}
use Rattle.sweep_frontier.specs.Frontiers.{frontier_of, lent_frontier}
use Rattle.sweep_by_definition.specs.Lists as run
use Rattle.sweep_by_definition.proofs.Moves.{back_below}
use Rattle.sweep_by_definition.proofs.list.add_below.Goals as goal

pub loop-t-preserved : goal.loop-t-preserved
loop-t-preserved c =
    let l = c.loop-t in
    folds_down_on l.invariant (omega arith) (c.add-grown.ensures ∙ ap (run.added (lent_frontier l.grown l.at l.marks)) c.at.ensures)

pub returns : goal.returns
returns c =
    let a = c.args in
    let s = a.front.now in
    folds_down_end c.loop-t.invariant (omega arith) ∙ back_below s.located.rings s.f.now a.k (frontier_of true a.len a.at.now a.marks.now) refl c.below-below.ensures.value c.len-q.ensures.value c.if-q-eq0.false
