-- best meets its contract.
use Prim.Native.Nat.{ℕ, ◌-◌}
use mathlib.Core.Path.{◌≡◌, refl, ap, sym, subst, ◌∙◌}
use mathlib.Core.List.{◌++◌}
use native.Mathlib.Omega.{arith}
use Rattle.rings.specs.Tables.{plan_of}
use Rattle.model.specs.Sweep.{choose}
use Rattle.sweep_by_definition.specs.Search.{Tested, Best, pair_row}
use Rattle.sweep_by_definition.proofs.Rows.{row_next, row_none}
use Rattle.sweep_by_definition.proofs.choice.best.Goals as goal

pub loop-k-init : goal.loop-k-init
loop-k-init c = λ s begins room others. refl

pub returns-in_err-fits : goal.returns-in_err-fits
returns-in_err-fits c =
    let a = c.args in
    let p = plan_of a.front.now.located.rings in
    let i : ℕ = c.loop-k.k - 1 - 1 in
    λ s begins room.
    let told = subst (Tested p s i a.j) c.in_err-fits.was (c.fits.ensures s begins i (omega arith) (omega arith) room) in
    subst (Best p s a.j) (sym c.from_residual.ensures) (λ others. c.loop-k.invariant s begins room others ∙ row_none p s a.j others (c.loop-k.k - 1) (λ x h. told x (omega arith)))

pub returns-then-branch : goal.returns-then-branch
returns-then-branch c =
    let a = c.args in
    let p = plan_of a.front.now.located.rings in
    let i : ℕ = c.loop-k.k - 1 - 1 in
    λ s begins room others.
    let told = subst (Tested p s i a.j) c.in_ok-fits.was (c.fits.ensures s begins i (omega arith) (omega arith) room) in
    c.loop-k.invariant s begins room others ∙ row_next p s a.j others (omega arith) (sym c.if-branch.true ∙ told)

pub loop-k-preserved : goal.loop-k-preserved
loop-k-preserved c =
    let a = c.args in
    let p = plan_of a.front.now.located.rings in
    let i : ℕ = c.loop-k.k - 1 - 1 in
    λ s begins room others.
    let told = subst (Tested p s i a.j) c.in_ok-fits.was (c.fits.ensures s begins i (omega arith) (omega arith) room) in
    c.loop-k.invariant s begins room others ∙ row_next p s a.j others (omega arith) (sym c.if-branch.false ∙ told)

pub returns : goal.returns
returns c =
    let a = c.args in
    let p = plan_of a.front.now.located.rings in
    let z : c.loop-k.k - 1 ≡ 0 = omega arith in
    λ s begins room others. c.loop-k.invariant s begins room others ∙ ap (λ (n : ℕ). choose p s (pair_row a.j n ++ others)) z
