-- A table whose plan fits: how many contexts and entries it has, and what its entries are.
use Prim.Native.Nat.{ℕ, ◌≤◌, ◌<◌, min}
use mathlib.Core.Path.{◌≡◌}
use mathlib.Core.Bool.{true}
use native.Mathlib.Omega.{arith}
use lib.ListN.{length, get_or}
use Rattle.model.specs.Plan.{context_count, ring}
use Rattle.model.proofs.Eligible.{get_or-mem}
use Rattle.rings.specs.declared.Table.{Table}
use Rattle.rings.specs.Tables.{start_of, starts_of, table, table_of}
use Rattle.rings.proofs.Rows.{count-rows}
use Rattle.plan_bounds.specs.Fits.{fit}
use Rattle.plan_bounds.proofs.Fits.{fit-says, total-is, all-counted}

module _ (t : Table) where
  -- whether it fits or not, the plan has n contexts
  pub table_count : context_count (table_of t) ≡ t.n
  unfolding table
  table_count = count-rows (starts_of t.sizes.now) t.sizes.now t.entries.now t.n

  module _ (e : fit (table_of t) ≡ true) where
    pub fit_few : t.n ≤ 200
    fit_few = let h = (fit-says (table_of t) e).few in let n = table_count in omega arith

    pub fit_room : start_of t.sizes.now t.n ≤ 1186
    fit_room = let h = (fit-says (table_of t) e).room in let k = total-is t.sizes.now t.entries.now t.n fit_few in omega arith

    -- as many entries as the code counts
    pub fit_counted : {k : ℕ} → k ≡ start_of t.sizes.now (min t.n 200) → k ≡ start_of t.sizes.now t.n
    fit_counted q = all-counted t.sizes.now fit_few q

    -- each entry is a context
    pub fit_entry : (u i : ℕ) → i < length (ring (table_of t) u) → get_or (ring (table_of t) u) i 0 < 200
    fit_entry u i h =
        let low = (fit-says (table_of t) e).inside u (get_or (ring (table_of t) u) i 0) (get_or-mem (ring (table_of t) u) i h) in
        let n = table_count in
        let few = fit_few in
        omega arith
