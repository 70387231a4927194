-- note meets its contract.
use mathlib.Core.Path.{sym, ap, ◌∙◌}
use Prim.Native.Nat.{ℕ}
use lib.ListN.{get_or, set}
use Rattle.rings.proofs.Rows.{cell_some, cell_none}
use Rattle.ring_positions.proofs.Notes.{noted_off, noted_full, noted-put}
use Rattle.ring_positions.proofs.note.Goals as goal

pub returns-then-number_at-eq0 : goal.returns-then-number_at-eq0
returns-then-number_at-eq0 c =
    let a = c.args in
    let (h, k, e) = cell_some a.u a.v c.cell.ensures c.in-Some.is in
    let free = sym (c.number_at.ensures.value ∙ ap (λ (at : ℕ). get_or a.table.now at 0) e) ∙ c.if-number_at-eq0.true in
    c.put.ensures ∙ ap (λ (at : ℕ). set a.table.now at a.x) e ∙ sym (noted-put a.table.now a.u a.v a.x h k free)

pub returns-else-number_at-eq0 : goal.returns-else-number_at-eq0
returns-else-number_at-eq0 c =
    let a = c.args in
    let (h, k, e) = cell_some a.u a.v c.cell.ensures c.in-Some.is in
    sym (noted_full a.table.now a.u a.v a.x h k (λ z. c.if-number_at-eq0.false (c.number_at.ensures.value ∙ ap (λ (at : ℕ). get_or a.table.now at 0) e ∙ z)))

pub returns-in_default : goal.returns-in_default
returns-in_default c = let a = c.args in sym (noted_off a.table.now a.u a.v a.x (cell_none a.u a.v c.cell.ensures c.in_default.not-Some))
