-- mark_all meets its contract.
use native.Mathlib.Omega.{arith}
use Rattle.sweep_by_counts.proofs.Counts.{marked_end}
use Rattle.sweep_by_counts.proofs.moves.mark_all.Goals as goal

pub returns : goal.returns
returns c = marked_end c.loop-c.invariant (omega arith)
