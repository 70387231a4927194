-- What the loops of put_on keep.
use Rattle.sweep_frontier.specs.Frontiers.{entries_read}
use Rattle.sweep_frontier.proofs.Puts.{Puts}
use Rattle.sweep_frontier.proofs.below.Below.put_on.Given as goal

abbrev pub invariant-loop-t : goal.invariant-loop-t
invariant-loop-t l = Puts l.q l.initial.list (entries_read l.self) l.t l.list
