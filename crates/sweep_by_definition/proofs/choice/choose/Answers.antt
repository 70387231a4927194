-- choose meets its contract.
use Prim.Native.Nat.{ℕ, suc, ◌-◌}
use mathlib.Core.Path.{◌≡◌, sym, ap, subst, ◌∙◌}
use native.Mathlib.Omega.{arith}
use Rattle.model.specs.Sweep.{choose}
use Rattle.rings.specs.Tables.{plan_of}
use Rattle.sweep_by_definition.specs.Search.{found_as, Best}
use Rattle.sweep_by_definition.proofs.Rows.{pairs, pairs_all}
use Rattle.sweep_by_definition.proofs.choice.choose.Goals as goal

pub loop-j-init : goal.loop-j-init
loop-j-init c = λ s begins. pairs_all (plan_of c.args.front.now.located.rings) s begins.1.rep.len

pub returns-in-Some : goal.returns-in-Some
unfolding found_as
returns-in-Some c =
    let p = plan_of c.args.front.now.located.rings in
    let j : ℕ = c.loop-j.j - 1 in
    let z : c.loop-j.j ≡ suc j = omega arith in
    λ s begins. sym (c.loop-j.invariant s begins ∙ ap (λ (n : ℕ). choose p s (pairs n)) z ∙ subst (Best p s j) c.in-Some.is (c.best.ensures s begins (omega arith)) (pairs j))

pub loop-j-preserved : goal.loop-j-preserved
loop-j-preserved c =
    let p = plan_of c.args.front.now.located.rings in
    let j : ℕ = c.loop-j.j - 1 in
    let z : c.loop-j.j ≡ suc j = omega arith in
    λ s begins. c.loop-j.invariant s begins ∙ ap (λ (n : ℕ). choose p s (pairs n)) z ∙ subst (Best p s j) c.in_default.is (c.best.ensures s begins (omega arith)) (pairs j)

pub returns : goal.returns
unfolding found_as choose
returns c =
    let p = plan_of c.args.front.now.located.rings in
    let z : c.loop-j.j ≡ 0 = omega arith in
    λ s begins. sym (c.loop-j.invariant s begins ∙ ap (λ (n : ℕ). choose p s (pairs n)) z)
