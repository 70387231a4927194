-- raise_all meets its contract.
use native.Mathlib.Omega.{arith}
use Rattle.sweep_by_counts.proofs.Counts.{raised_on, raised_end}
use Rattle.sweep_by_counts.proofs.moves.raise_all.Goals as goal

pub loop-c-preserved : goal.loop-c-preserved
loop-c-preserved c = raised_on c.loop-c.invariant (omega arith) c.from.ensures c.raise.ensures

pub returns : goal.returns
returns c = raised_end c.loop-c.invariant (omega arith)
