-- is_listed meets its contract.
use mathlib.Core.Path.{refl, ◌∙◌}
use Rattle.file_rings.specs.Plans.{plan_of_file}
use Rattle.ring_positions.proofs.Cells.{cell-position, adjacent-cell}
use Rattle.file_ring_rules.proofs.Whole.{whole_adjacent}
use Rattle.file_ring_rules.proofs.located.Located.is_listed.Goals as goal

pub returns-in-Some : goal.returns-in-Some
returns-in-Some c =
    let a = c.args in
    let s = a.self.now in
    adjacent-cell (plan_of_file s.rings) a.u a.v (cell-position _ _ s.own a.u a.v c.cell.ensures c.in-Some.is c.number_at.ensures.value)

pub returns-in-None : goal.returns-in-None
returns-in-None c =
    let a = c.args in
    let r = a.self.now.rings in
    c.is_from.ensures ∙ whole_adjacent r.starts.now r.sizes.now r.file.now r.n a.u a.v _ refl
