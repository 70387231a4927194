-- take_step meets its contract.
use Prim.Native.Nat.{ℕ, suc, ◌+◌}
use mathlib.Core.Path.{◌≡◌, sym, ap, subst, ◌∙◌}
use mathlib.Core.Bool.{false}
use native.Mathlib.Omega.{arith}
use Rattle.std.specs.Prelude.{Ok, Result, is_ok}
use Rattle.lists.specs.Spans.{zeros}
use Rattle.lists.proofs.Bools.{both}
use Rattle.model.specs.Sweep.{advance}
use Rattle.rings.specs.Tables.{plan_of}
use Rattle.sweep_frontier.specs.Frontiers.{lent_frontier, empty_frontier}
use Rattle.sweep_labelling.specs.Labelling.{Labelled}
use Rattle.sweep_by_definition.proofs.Steps.{step-whole, step-labels, step-front}
use Rattle.sweep_by_definition.proofs.take_step.Goals as goal

pub returns-in_err-q : goal.returns-in_err-q
unfolding zeros empty_frontier
returns-in_err-q c =
    let a = c.args in
    let sane = a.guided.now.guide.sane in
    let next : a.i + 1 ≡ suc a.i = omega arith in
    let off : is_ok c.listed.result ≡ false = grind arith in
    λ s fr h two inside good. both (is_ok c.listed.result) (step-whole sane fr a.i a.j two inside good next c.listed.result c.listed.ensures) off

pub returns-in_err-len : goal.returns-in_err-len
unfolding zeros empty_frontier
returns-in_err-len c =
    let a = c.args in
    let sane = a.guided.now.guide.sane in
    let next : a.i + 1 ≡ suc a.i = omega arith in
    let on : c.listed.result ≡ Ok c.in_ok-q.q = grind arith in
    let off : is_ok c.replaced.result ≡ false = grind arith in
    λ s fr h two inside good. both (is_ok c.replaced.result) (step-front sane fr a.i a.j two inside good next c.listed.result c.listed.ensures on (c.replaced.ensures c.listed.new.marks)).rep.ok off

pub returns : goal.returns
unfolding zeros empty_frontier
returns c =
    let a = c.args in
    let p = plan_of a.guided.now.located.rings in
    let sane = a.guided.now.guide.sane in
    let next : a.i + 1 ≡ suc a.i = omega arith in
    let on : c.listed.result ≡ Ok c.in_ok-q.q = grind arith in
    let fits : Ok c.in_ok-len.len ≡ c.replaced.result = grind arith in
    let put = ap (λ (r : Result ℕ ℕ). lent_frontier r c.replaced.new.at c.listed.new.marks) fits ∙ c.replaced.ensures c.listed.new.marks in
    λ s fr h two inside good. (
      step-front sane fr a.i a.j two inside good next c.listed.result c.listed.ensures on put,
      subst (Labelled p (advance p s a.i a.j)) (sym c.step_labels.ensures) (step-labels sane fr a.i a.j two inside good next c.listed.result c.listed.ensures on h),
    )
