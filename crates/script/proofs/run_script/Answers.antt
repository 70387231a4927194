-- run_script meets its contract.
use mathlib.Core.Path.{ap}
use Rattle.std.specs.Int.{from_bool}
use Rattle.guarantee.proofs.Guarantee.{guarantee}
use Rattle.script.specs.Scripts.{calls_of}
use Rattle.script.proofs.Walk.{runs_on, rest_whole, runs_end}
use native.Mathlib.Omega.{arith}
use Rattle.script.proofs.run_script.Goals as goal

pub overflow_add-at : goal.overflow_add-at
overflow_add-at c =
    let item = c.in-Some.ensures in
    let r = (runs_on c.loop-step.invariant (rest_whole c.args.script.now c.loop-step.at) c.in-Some.step item.answer item.size).reached in
    omega arith

pub overflow_add-accepted : goal.overflow_add-accepted
overflow_add-accepted c =
    let item = c.in-Some.ensures in
    let r = runs_on c.loop-step.invariant (rest_whole c.args.script.now c.loop-step.at) c.in-Some.step item.answer item.size in
    let reached = r.reached in
    let few = r.few in
    let one = ap from_bool c.is_ok.ensures.value in
    omega arith

pub loop-step-smaller : goal.loop-step-smaller
loop-step-smaller c =
    let item = c.in-Some.ensures in
    let r = (runs_on c.loop-step.invariant (rest_whole c.args.script.now c.loop-step.at) c.in-Some.step item.answer item.size).reached in
    let size = item.size in
    omega arith

pub returns-clause-sheet_value : goal.returns-clause-sheet_value
returns-clause-sheet_value c = (runs_end c.loop-step.invariant (rest_whole c.args.script.now c.loop-step.at) c.run_item.ensures.answer c.in_default.not-Some).sheet

pub returns-clause-at_value : goal.returns-clause-at_value
returns-clause-at_value c = (runs_end c.loop-step.invariant (rest_whole c.args.script.now c.loop-step.at) c.run_item.ensures.answer c.in_default.not-Some).place

pub returns-clause-accepted_value : goal.returns-clause-accepted_value
returns-clause-accepted_value c = (runs_end c.loop-step.invariant (rest_whole c.args.script.now c.loop-step.at) c.run_item.ensures.answer c.in_default.not-Some).count

pub returns-clause-last_value : goal.returns-clause-last_value
returns-clause-last_value c = (runs_end c.loop-step.invariant (rest_whole c.args.script.now c.loop-step.at) c.run_item.ensures.answer c.in_default.not-Some).answer

pub returns-clause-guarantee : goal.returns-clause-guarantee
returns-clause-guarantee c = guarantee (calls_of c.args.script.now)
