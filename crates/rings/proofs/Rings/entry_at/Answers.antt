-- entry_at meets its contract.
use mathlib.Core.Path.{sym, ap, ◌∙◌}
use Prim.Native.Nat.{ℕ, ◌+◌}
use lib.ListN.{get_or}
use Rattle.model.specs.Plan.{neighbour}
use Rattle.rings.proofs.Rows.{ring-at, ring-past}
use native.Mathlib.Omega.{arith}
use Rattle.rings.proofs.Rings.entry_at.Goals as goal

pub returns-then-i-size_of : goal.returns-then-i-size_of
unfolding neighbour
returns-then-i-size_of c =
    let a = c.args in
    let s = c.size_of.ensures.value in
    c.at.ensures ∙ ap (λ (k : ℕ). get_or a.self.now.entries.now (k + a.i) 0) c.number_at.ensures.value
    ∙ sym (ring-at a.self.now.starts.now a.self.now.sizes.now a.self.now.entries.now a.self.now.n a.u a.i (omega arith))

pub returns-else-i-size_of : goal.returns-else-i-size_of
returns-else-i-size_of c =
    let a = c.args in
    let s = c.size_of.ensures.value in
    sym (ring-past a.self.now.starts.now a.self.now.sizes.now a.self.now.entries.now a.self.now.n a.u a.i (omega arith))
