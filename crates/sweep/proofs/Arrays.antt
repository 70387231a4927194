-- The rings of a plan that fits: the table of their positions, and what labels are put by.
use Prim.Native.Nat.{ℕ, ◌≤◌}
use mathlib.Core.Path.{◌≡◌}
use mathlib.Core.Bool.{true}
use native.Mathlib.Omega.{arith}
use Rattle.model.specs.Plan.{entry_count}
use Rattle.rings.specs.declared.Rings.{Rings}
use Rattle.rings.specs.Tables.{starts_of, plan_of}
use Rattle.rings.proofs.Rows.{count-rows}
use Rattle.plan_bounds.specs.Fits.{fit}
use Rattle.plan_bounds.proofs.Fits.{fit-says}
use Rattle.labels.proofs.Places.{start-bounded_table}
use Rattle.sweep_labelling.specs.Edges.{Guide}

-- what labels are put by, for rings that fit; and there is room for them
pub guided : (r : Rings) → r.starts.now ≡ starts_of r.sizes.now → fit (plan_of r) ≡ true → Guide (plan_of r) r.starts.now × (entry_count (plan_of r) ≤ 1186)
guided r begin fits =
    let z = count-rows r.starts.now r.sizes.now r.entries.now r.n in
    let h = fit-says (plan_of r) fits in
    let few = h.few in
    let n : ℕ = r.n in
    (record { begins = λ u k. start-bounded_table r.starts.now r.sizes.now r.entries.now n begin (omega arith) u (omega arith); few = few; sane = record { entry = λ u v m. let k = h.inside u v m in omega arith } }, h.room)
