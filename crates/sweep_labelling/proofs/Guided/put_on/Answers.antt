-- put_on meets its contract.
use mathlib.Core.Path.{◌≡◌, ap, ◌∙◌}
use Prim.Native.Nat.{ℕ, ◌+◌, ◌-◌}
use native.Mathlib.Omega.{arith}
use lib.ListN.{set}
use Rattle.rings.proofs.Rows.{cell_none}
use Rattle.ring_positions.proofs.Cells.{cell-position}
use Rattle.sweep_labelling.proofs.Puts.{put_off, put_absent, put_there}
use Rattle.sweep_labelling.proofs.Guided.put_on.Goals as goal

pub returns-in_default : goal.returns-in_default
returns-in_default c = let a = c.args in put_off a.self.now.guide a.u a.v a.l a.labels.now (cell_none a.u a.v c.cell.ensures c.in_default.not-Some)

pub returns-in_default-checked_sub : goal.returns-in_default-checked_sub
returns-in_default-checked_sub c =
    let a = c.args in
    let told = cell-position _ _ a.self.now.located.own a.u a.v c.cell.ensures c.in-Some.is c.number_at.ensures.value in
    put_absent a.self.now.guide a.u a.v a.l a.labels.now told (omega arith)

pub returns-in-Some-checked_sub : goal.returns-in-Some-checked_sub
returns-in-Some-checked_sub c =
    let a = c.args in
    let told = cell-position _ _ a.self.now.located.own a.u a.v c.cell.ensures c.in-Some.is c.number_at.ensures.value in
    let i : c.in-Some-checked_sub.i ≡ c.number_at.result - 1 = omega arith in
    c.put.ensures ∙ ap (λ (i : ℕ). set a.labels.now (c.number_at-in-Some-checked_sub.result + i) a.l) i ∙ put_there a.self.now.guide a.u a.v a.l a.labels.now told (λ z. omega arith) c.number_at-in-Some-checked_sub.ensures.value
