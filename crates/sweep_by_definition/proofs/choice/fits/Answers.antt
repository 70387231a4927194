-- fits meets its contract.
use Prim.Native.Nat.{ℕ}
use mathlib.Core.Path.{◌≡◌, refl, sym, ap, subst, ◌∙◌}
use mathlib.Core.Bool.{false, not}
use mathlib.Core.List.{[]}
use native.Mathlib.Omega.{arith}
use Rattle.std.proofs.Common.{length-take-le}
use Rattle.std.specs.Prelude.{Ok, Result, is_ok}
use Rattle.lists.specs.Spans.{zeros}
use Rattle.lists.proofs.Bools.{both}
use Rattle.rings.specs.Tables.{plan_of}
use Rattle.sweep_frontier.specs.Frontiers.{lent_frontier, empty_frontier}
use Rattle.sweep_by_definition.specs.Search.{Tested}
use Rattle.sweep_by_definition.proofs.Moves.{replaced_short}
use Rattle.sweep_by_definition.proofs.Eligible.{tested_none, tested_some}
use Rattle.sweep_by_definition.proofs.choice.fits.Goals as goal

pub returns-in_err-q : goal.returns-in_err-q
unfolding zeros empty_frontier
returns-in_err-q c =
    let a = c.args in
    let off : is_ok c.listed.result ≡ false = grind arith in
    λ s begins i next two inside. subst (Tested (plan_of a.front.now.located.rings) s i a.j) (sym c.from_residual.ensures) (tested_none begins.0 begins.1 i a.j two inside next c.listed.result c.listed.ensures off)

pub returns-in_err-len : goal.returns-in_err-len
unfolding zeros empty_frontier
returns-in_err-len c =
    let on : c.listed.result ≡ Ok c.in_ok-q.q = grind arith in
    let off : is_ok c.replaced.result ≡ false = grind arith in
    λ s begins i next two inside. both (is_ok c.replaced.result) (tested_some begins.0 begins.1 i c.args.j two inside next c.listed.result c.listed.ensures on (c.replaced.ensures c.listed.new.marks)).0 off

pub returns : goal.returns
unfolding zeros empty_frontier
returns c =
    let on : c.listed.result ≡ Ok c.in_ok-q.q = grind arith in
    let fits : Ok c.in_ok-len.len ≡ c.replaced.result = grind arith in
    let put = ap (λ (r : Result ℕ ℕ). lent_frontier r c.replaced.new.at c.listed.new.marks) fits ∙ c.replaced.ensures c.listed.new.marks in
    λ s begins i next two inside. ap not c.is_chorded.ensures ∙ (tested_some begins.0 begins.1 i c.args.j two inside next c.listed.result c.listed.ensures on put).1

pub slice_bounds-next-end : goal.slice_bounds-next-end
slice_bounds-next-end c =
    let fits : Ok c.in_ok-len.len ≡ c.replaced.result = grind arith in
    let few = replaced_short _ _ _ _ _ _ _ refl fits (c.replaced.ensures []) in
    let size = c.replaced.auto.at in
    omega arith

pub slice_bounds-is_chorded-end : goal.slice_bounds-is_chorded-end
slice_bounds-is_chorded-end c =
    let fits : Ok c.in_ok-len.len ≡ c.replaced.result = grind arith in
    let few = replaced_short _ _ _ _ _ _ _ refl fits (c.replaced.ensures []) in
    let size = c.replaced.auto.at in
    sym (length-take-le c.in_ok-len.len c.replaced.new.at (omega arith))
