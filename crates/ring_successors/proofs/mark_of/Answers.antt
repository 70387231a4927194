-- mark_of meets its contract.
use Rattle.ring_successors.specs.Successors.{successor_mark}
use native.Mathlib.Omega.{arith}
use Rattle.ring_successors.proofs.mark_of.Goals as goal

pub returns : goal.returns
unfolding successor_mark
returns c = omega arith
