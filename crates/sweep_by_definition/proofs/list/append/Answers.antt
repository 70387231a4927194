-- append meets its contract.
use mathlib.Core.Path.{sym, ap, ◌∙◌}
use native.Mathlib.Omega.{arith}
use Rattle.std.specs.Prelude.{fold}
use Rattle.lists.proofs.Spans.{span_end}
use Rattle.sweep_frontier.specs.Frontiers.{pushed, lent_frontier}
use Rattle.sweep_by_definition.proofs.Moves.{fold_next}
use Rattle.sweep_by_definition.proofs.list.append.Goals as goal

pub loop-k-preserved : goal.loop-k-preserved
loop-k-preserved c =
    let l = c.loop-k in
    λ marks.
    let v = lent_frontier l.grown l.at marks in
    l.invariant marks ∙ fold_next c.args.f.now v c.in-Some.ensures.steps (c.grow-grown.ensures marks ∙ ap (pushed v) c.at.ensures)

pub returns : goal.returns
returns c =
    let l = c.loop-k in
    let done = c.in-None.ensures.steps in
    λ marks. sym (l.invariant marks ∙ ap (fold pushed (lent_frontier l.grown l.at marks)) (span_end c.args.f.now l.k-iterator.start l.k-iterator.end (omega arith)))
