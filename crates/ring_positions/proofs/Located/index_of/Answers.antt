-- index_of meets its contract.
use mathlib.Core.Path.{◌≡◌, sym, ◌∙◌}
use Prim.Native.Nat.{◌-◌}
use native.Mathlib.Omega.{arith}
use Rattle.rings.specs.Tables.{plan_of}
use Rattle.rings.proofs.Rows.{ring-size}
use Rattle.ring_positions.proofs.Cells.{cell-position, index_none, index_some}
use Rattle.ring_positions.proofs.Located.index_of.Goals as goal

pub returns-in_default-checked_sub-clause-value : goal.returns-in_default-checked_sub-clause-value
returns-in_default-checked_sub-clause-value c =
    let a = c.args in
    let s = a.self.now in
    let r = s.rings in
    let told = cell-position _ _ s.own a.u a.v c.cell.ensures c.in-Some.is c.number_at.ensures.value in
    c.size_of.ensures.value ∙ sym (ring-size r.starts.now r.sizes.now r.entries.now r.n a.u) ∙ sym (index_none (plan_of r) a.u a.v told (omega arith))

pub returns-clause-value : goal.returns-clause-value
returns-clause-value c =
    let a = c.args in
    let s = a.self.now in
    let told = cell-position _ _ s.own a.u a.v c.cell.ensures c.in-Some.is c.number_at.ensures.value in
    let i : c.in-Some-checked_sub.i ≡ c.number_at.result - 1 = omega arith in
    i ∙ index_some (plan_of s.rings) a.u a.v told (λ z. omega arith)
