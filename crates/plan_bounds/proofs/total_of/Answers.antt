-- total_of meets its contract.
use Prim.Native.Nat.{ℕ, ◌+◌, ◌≤◌, min}
use mathlib.Core.Path.{◌∙◌}
use native.Mathlib.Omega.{arith}
use lib.ListN.{length, take}
use Rattle.std.proofs.Common.{rules, ◌^◌, length-take}
use Rattle.std.proofs.lemmas.Iterator.{YieldsList-from_slice, YieldsList-from_map}
use Rattle.std.proofs.lemmas.Iterator.Adapters.{fits_from_length, at_most_from_yields_List, total_from_yields_List}
use Rattle.plan_bounds.proofs.Fits.{summed, start-low}
use Rattle.plan_bounds.proofs.total_of.Goals as goal

pub sum-requires-clause-fits : goal.sum-requires-clause-fits
sum-requires-clause-fits c =
    let m = c.min-counted.result in
    let few : length (take m c.args.sizes.now) ≤ 200 = omega (arith, length-take m c.args.sizes.now, c.min.ensures, c.min-counted.ensures) in
    fits_from_length _ _ 200 (2 ^ 64) (at_most_from_yields_List (YieldsList-from_slice (take m c.args.sizes.now) cc) few) c.map.ensures.closure (omega arith) (λ x r q k. search rules)

pub returns-clause-value : goal.returns-clause-value
returns-clause-value c =
    let m = c.min-counted.result in
    let there = YieldsList-from_slice (take m c.args.sizes.now) cc in
    total_from_yields_List (λ (a x : ℕ). a + x) 0 c.sum.result c.sum.ensures.ran (YieldsList-from_map _ (λ (x : ℕ). x) there c.map.ensures.closure (λ x r q k. search rules))
    ∙ summed c.args.sizes.now c.args.n c.min.ensures c.min-counted.ensures

pub returns-clause-upper_bound : goal.returns-clause-upper_bound
returns-clause-upper_bound c =
    let e = returns-clause-value c in
    let low = start-low c.args.sizes.now (λ i. (c.type_inv.sizes i).fits) (min c.args.n 200) in
    omega arith
