-- What the loop of four_runs keeps.
use Rattle.labels.proofs.Rounds.{Weighs}
use Rattle.labels.proofs.runs.four_runs.Given as goal

abbrev pub invariant-loop-label : goal.invariant-loop-label
invariant-loop-label l = Weighs l.round l.label-index l.last l.changes
