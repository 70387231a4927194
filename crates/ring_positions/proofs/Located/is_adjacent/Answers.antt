-- is_adjacent meets its contract.
use Rattle.rings.specs.Tables.{plan_of}
use Rattle.ring_positions.proofs.Cells.{cell-position, adjacent-cell}
use Rattle.ring_positions.proofs.Located.is_adjacent.Goals as goal

pub returns-in-Some : goal.returns-in-Some
returns-in-Some c =
    let a = c.args in
    let s = a.self.now in
    adjacent-cell (plan_of s.rings) a.u a.v (cell-position _ _ s.own a.u a.v c.cell.ensures c.in-Some.is c.number_at.ensures.value)
