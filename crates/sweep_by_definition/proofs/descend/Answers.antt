-- descend meets its contract.
use Prim.Native.Nat.{ℕ, ◌-◌}
use native.Mathlib.Omega.{arith}
use mathlib.Core.Path.{◌≡◌, ap, subst, ◌∙◌}
use mathlib.Core.Bool.{not}
use Rattle.std.proofs.Common.{None, Some, Err}
use Rattle.std.proofs.lemmas.Result.{err_from_is_err_and}
use Rattle.rings.specs.Tables.{plan_of}
use Rattle.refusal.specs.Refusals.{outcome_of}
use Rattle.refusal.specs.declared.Refusal.TheVariants.{SweepStuck}
use Rattle.sweep_by_definition.specs.Steps.{Running}
use Rattle.sweep_by_definition.proofs.Steps.{running_done, running_stuck, found_inside, running-whole, running_on, running_out}
use Rattle.sweep_by_definition.proofs.descend.Goals as goal

pub loop-init : goal.loop-init
loop-init c =
    let n : ℕ = c.args.guided.now.located.rings.n in
    let all : n ≡ n - 0 = omega arith in
    subst (λ (k : ℕ). Running (plan_of c.args.guided.now.located.rings) k c.args.first c.args.first_labels) all c.requires

pub returns-then-not-is_unfinished : goal.returns-then-not-is_unfinished
returns-then-not-is_unfinished c = running_done c.args.guided.now.guide.sane c.loop.invariant (omega arith) c.is_unfinished.ensures (ap not c.if-not-is_unfinished.true) c.finish_labels.ensures

pub returns-in_err-i : goal.returns-in_err-i
returns-in_err-i c =
    let none : c.choose.result ≡ None = grind arith in
    let p = err_from_is_err_and c.from_residual.result c.from_residual.ensures.1 in
    let stuck : c.in_err-i.field-0.0 ≡ SweepStuck = grind arith in
    ap outcome_of (p.1 ∙ ap Err (p.2 ∙ stuck)) ∙ running_stuck c.args.guided.now.guide.sane c.loop.invariant c.choose.result (omega arith) c.is_unfinished.ensures (ap not c.if-not-is_unfinished.false) c.choose.ensures none

pub take_step-requires-clause-i_bound : goal.take_step-requires-clause-i_bound
take_step-requires-clause-i_bound c =
    let some : c.choose.result ≡ Some (c.in_ok-i.i, c.in_ok-i.j) = grind arith in
    (found_inside c.args.guided.now.guide.sane c.loop.invariant c.choose.result c.choose.ensures some).2

pub take_step-requires-clause-j_bound : goal.take_step-requires-clause-j_bound
take_step-requires-clause-j_bound c =
    let some : c.choose.result ≡ Some (c.in_ok-i.i, c.in_ok-i.j) = grind arith in
    (found_inside c.args.guided.now.guide.sane c.loop.invariant c.choose.result c.choose.ensures some).3

pub returns-in_err-frontier : goal.returns-in_err-frontier
returns-in_err-frontier c =
    let some : c.choose.result ≡ Some (c.in_ok-i.i, c.in_ok-i.j) = grind arith in
    let none : c.take_step.result ≡ None = grind arith in
    absurd (running-whole c.args.guided.now.guide.sane c.loop.invariant c.choose.result c.choose.ensures some c.take_step.result c.take_step.new.labels c.take_step.ensures none)

pub loop-preserved : goal.loop-preserved
loop-preserved c =
    let some : c.choose.result ≡ Some (c.in_ok-i.i, c.in_ok-i.j) = grind arith in
    let step : c.take_step.result ≡ Some c.in_ok-frontier.frontier = grind arith in
    let on = ap not c.if-not-is_unfinished.false in
    running_on c.args.guided.now.guide.sane c.loop.invariant c.choose.result c.choose.ensures some c.take_step.result c.take_step.new.labels c.take_step.ensures (omega arith) c.is_unfinished.ensures on step

pub returns : goal.returns
returns c = running_out c.args.guided.now.guide.sane c.loop.invariant (omega arith)
