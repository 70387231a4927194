-- next_of meets its contract.
use mathlib.Core.Path.{sym, ◌∙◌}
use Rattle.model.specs.Plan.{ring}
use Rattle.rings.specs.Tables.{rows}
use Rattle.rings.proofs.Rows.{ring-size, next-after, next_round, next-alone}
use native.Mathlib.Omega.{arith}
use Rattle.ring_search.proofs.next_of.Goals as goal

pub returns-then-i-size_of : goal.returns-then-i-size_of
returns-then-i-size_of c =
    let a = c.args in
    let at = c.index_of-i.ensures.value in
    let long = c.size_of.ensures.value ∙ sym (ring-size a.rings.now.starts.now a.rings.now.sizes.now a.rings.now.entries.now a.rings.now.n a.u) in
    c.neighbour_at.ensures ∙ next-after a.a (ring (rows a.rings.now.starts.now a.rings.now.sizes.now a.rings.now.entries.now a.rings.now.n) a.u) _ _ at long (omega arith)

pub returns-then-i-gt0 : goal.returns-then-i-gt0
returns-then-i-gt0 c =
    let a = c.args in
    let at = c.index_of-i.ensures.value in
    let long = c.size_of.ensures.value ∙ sym (ring-size a.rings.now.starts.now a.rings.now.sizes.now a.rings.now.entries.now a.rings.now.n a.u) in
    c.neighbour_at-then-i-gt0.ensures ∙ next_round a.a (ring (rows a.rings.now.starts.now a.rings.now.sizes.now a.rings.now.entries.now a.rings.now.n) a.u) _ _ at long (omega arith) (omega arith)

pub returns : goal.returns
returns c =
    let a = c.args in
    let at = c.index_of-i.ensures.value in
    let long = c.size_of.ensures.value ∙ sym (ring-size a.rings.now.starts.now a.rings.now.sizes.now a.rings.now.entries.now a.rings.now.n a.u) in
    next-alone a.a (ring (rows a.rings.now.starts.now a.rings.now.sizes.now a.rings.now.entries.now a.rings.now.n) a.u) _ _ at long (omega arith) (omega arith)
