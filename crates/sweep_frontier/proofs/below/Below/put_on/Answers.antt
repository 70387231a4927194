-- put_on meets its contract.
use native.Mathlib.Omega.{arith}
use Rattle.rings.proofs.Rows.{index_le}
use Rattle.sweep_frontier.specs.Frontiers.{entries_read}
use Rattle.sweep_frontier.proofs.Puts.{puts_on}
use Rattle.sweep_frontier.proofs.below.Below.put_on.Goals as goal

pub loop-t-preserved : goal.loop-t-preserved
loop-t-preserved c =
    let b = c.args.self.now in
    let deep = index_le b.left (entries_read b) in
    let long = c.len-q.ensures.value in
    puts_on c.loop-t.invariant (omega arith) (omega arith) (omega arith) (omega arith) c.read.ensures c.put.ensures
