-- is_adjacent meets its contract.
use Rattle.rings.specs.Tables.{plan_of}
use Rattle.scan.proofs.RingTests.{successor_lists}
use Rattle.scan.proofs.WithSuccessors.is_adjacent.Goals as goal

pub returns : goal.returns
returns c =
    let a = c.args in
    let s = a.self.now in
    successor_lists (plan_of s.rings) s.fits s.table.now s.own a.u a.v c.successor.ensures
