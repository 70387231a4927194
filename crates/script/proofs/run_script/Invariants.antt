-- What the loop of run_script keeps.
use Prim.Native.Nat.{◌-◌}
use lib.ListN.{length}
use Rattle.script.proofs.Walk.{Runs}
use Rattle.script.proofs.run_script.Given as goal

abbrev pub invariant-loop-step : goal.invariant-loop-step
invariant-loop-step l = Runs l.script l.sheet l.at l.accepted l.last

abbrev pub decreases-loop-step : goal.decreases-loop-step
decreases-loop-step l = length l.script - l.at
