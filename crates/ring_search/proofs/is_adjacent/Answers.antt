-- is_adjacent meets its contract.
use mathlib.Core.Path.{sym, ◌∙◌}
use lib.Dec.{ltb}
use Rattle.model.specs.Plan.{ring, adjacent}
use Rattle.rings.specs.Tables.{rows}
use Rattle.rings.proofs.Rows.{ring-size, member_index}
use Rattle.ring_search.proofs.is_adjacent.Goals as goal

pub returns : goal.returns
unfolding adjacent
returns c =
    let a = c.args in
    let p = rows a.rings.now.starts.now a.rings.now.sizes.now a.rings.now.entries.now a.rings.now.n in
    let at = c.index_of.ensures.value in
    let long = c.size_of.ensures.value ∙ sym (ring-size a.rings.now.starts.now a.rings.now.sizes.now a.rings.now.entries.now a.rings.now.n a.u) in
    (λ i. ltb (at i) (long i)) ∙ sym (member_index a.v (ring p a.u))
