-- run meets its contract.
use mathlib.Core.Path.{◌≡◌, sym, subst, ◌∙◌}
use Prim.Native.Nat.{ℕ, suc, ◌+◌, ◌-◌}
use native.Mathlib.Omega.{arith}
use Rattle.std.proofs.Common.{None, Some}
use Rattle.rings.specs.Tables.{plan_of}
use Rattle.sweep_frontier.specs.Held.{HoldsFrontier}
use Rattle.sweep_frontier.proofs.Fails.{unless_failed_is}
use Rattle.model.specs.Sweep.{first_state}
use Rattle.sweep_ends.specs.Ends.{first_frontier}
use Rattle.sweep_ends.proofs.Beginning.{first-frontier, first_whole}
use Rattle.sweep_by_counts.specs.Running.{RunningBelow}
use Rattle.sweep_by_counts.proofs.Runs.{settles, takes, run_out}
use Rattle.sweep_by_counts.proofs.CountingSweep.run.Goals as goal

pub returns-in_err-first : goal.returns-in_err-first
returns-in_err-first c =
    let g = c.args.self.now.guided.guide in
    let north = c.first_frontier.ensures.north in
    let none : c.first_frontier.result ≡ None = grind arith in
    absurd (first_whole _ g.sane (omega arith) (sym c.first_frontier.ensures.value ∙ none))

pub begin-limit-requires : goal.begin-limit-requires
begin-limit-requires c =
    let g = c.args.self.now.guided.guide in
    let p = plan_of c.args.self.now.guided.located.rings in
    let north = c.first_frontier.ensures.north in
    let some : c.first_frontier.result ≡ Some c.in_ok-first.first = grind arith in
    subst (HoldsFrontier (first_state p)) (unless_failed_is (first_frontier p) (sym c.first_frontier.ensures.value ∙ some)) (first-frontier p g.sane (omega arith))

pub loop-init : goal.loop-init
loop-init c =
    let n : ℕ = c.args.self.now.guided.located.rings.n in
    let all : n ≡ n - 0 = omega arith in
    subst (λ (k : ℕ). RunningBelow (plan_of c.args.self.now.guided.located.rings) k c.begin-limit.result.1 c.begin-limit.result.0) all c.begin-limit.ensures

pub settled-requires : goal.settled-requires
settled-requires c =
    let n : ℕ = c.args.self.now.guided.located.rings.n in
    let z : n - c.loop.counter ≡ suc (n - (c.loop.counter + 1)) = omega arith in
    let r = subst (λ (k : ℕ). RunningBelow (plan_of c.args.self.now.guided.located.rings) k c.loop.limit c.loop.course) z c.loop.invariant in
    let none : c.pick.result ≡ None = grind arith in
    settles c.args.self.now.sound r c.pick.result c.pick.ensures.pair none

pub step-limit-requires : goal.step-limit-requires
step-limit-requires c =
    let n : ℕ = c.args.self.now.guided.located.rings.n in
    let z : n - c.loop.counter ≡ suc (n - (c.loop.counter + 1)) = omega arith in
    let r = subst (λ (k : ℕ). RunningBelow (plan_of c.args.self.now.guided.located.rings) k c.loop.limit c.loop.course) z c.loop.invariant in
    let some : c.pick.result ≡ Some c.in-Some.found = grind arith in
    (n - (c.loop.counter + 1), takes c.args.self.now.sound r c.pick.result c.pick.ensures.pair c.pick.ensures.list some)

pub loop-preserved : goal.loop-preserved
loop-preserved c =
    let n : ℕ = c.args.self.now.guided.located.rings.n in
    let z : n - c.loop.counter ≡ suc (n - (c.loop.counter + 1)) = omega arith in
    let r = subst (λ (k : ℕ). RunningBelow (plan_of c.args.self.now.guided.located.rings) k c.loop.limit c.loop.course) z c.loop.invariant in
    let some : c.pick.result ≡ Some c.in-Some.found = grind arith in
    c.step-limit.ensures (n - (c.loop.counter + 1)) (takes c.args.self.now.sound r c.pick.result c.pick.ensures.pair c.pick.ensures.list some)

pub returns : goal.returns
returns c =
    let n : ℕ = c.args.self.now.guided.located.rings.n in
    let z : n - c.loop.counter ≡ 0 = omega arith in
    run_out c.args.self.now.sound (subst (λ (k : ℕ). RunningBelow (plan_of c.args.self.now.guided.located.rings) k c.loop.limit c.loop.course) z c.loop.invariant)
