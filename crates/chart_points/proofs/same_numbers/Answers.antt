-- same_numbers meets its contract.
use mathlib.Core.Path.{refl, ◌∙◌}
use Prim.Native.Nat.{ℕ}
use native.Mathlib.Omega.{arith}
use borrow.Author.Rules.{rules}
use borrow.Author.Tests.{tests}
use lib.ListN.{get_or}
use lib.Dec.{eqb}
use Rattle.std.proofs.lemmas.Iterator.{YieldsList-from_range}
use Rattle.std.proofs.lemmas.Iterator.Search.{all_from_yields_List}
use Rattle.chart_points.proofs.Comparing.{all-same}
use Rattle.chart_points.proofs.same_numbers.Goals as goal

pub returns : goal.returns
returns c =
    let a = c.args.a.now in
    let b = c.args.b.now in
    all_from_yields_List (λ (i : ℕ). eqb (get_or a i 0) (get_or b i 0)) _ _ c.all.result c.all.ensures.ran (YieldsList-from_range 0 c.args.n c.args.n refl (omega arith)) (λ x b q k. search (rules, tests)) ∙ all-same a b 0 c.args.n
