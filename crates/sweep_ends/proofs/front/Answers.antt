-- front meets its contract.
use mathlib.Core.Path.{◌≡◌, ap, ◌∙◌}
use mathlib.Core.Bool.{true}
use Prim.Native.Nat.{ℕ, suc, ◌-◌, ◌+◌}
use native.Mathlib.Omega.{arith}
use lib.ListN.{length, get_or}
use Rattle.lists.specs.Spans.{zeros}
use Rattle.model.specs.Plan.{ring}
use Rattle.rings.specs.declared.Rings.{Rings}
use Rattle.rings.specs.Tables.{plan_of}
use Rattle.lists.proofs.Folds.{folds_down_from, folds_down_on, folds_down_end}
use Rattle.sweep_frontier.specs.Frontiers as run
use Rattle.sweep_frontier.proofs.Fails.{pushed-off, down-failed, folds_down-failed, tried_yes, tried_no, unless_failed_yes, unless_failed_no}
use Rattle.sweep_ends.specs.Ends.{first_contexts}
use Rattle.sweep_ends.proofs.Beginning.{north_long}
use Rattle.sweep_ends.proofs.front.Goals as goal

-- what is put on the frontier for each of North's inner neighbours
abbrev step : Rings → ℕ → run.Frontier → run.Frontier
step r i v = run.pushed v (get_or (ring (plan_of r) 0) (suc i) 0)

pub loop-t-init : goal.loop-t-init
unfolding zeros run.empty_frontier
loop-t-init c =
    let q = north_long c.args.rings.now c.from-north.ensures c.size_of.ensures.value in
    folds_down_from (c.saturating_sub-inner.ensures ∙ ap (λ (k : ℕ). k - 2) q) (tried_yes 0 (c.push.ensures (zeros 256)) c.in_ok-len.was)

pub loop-t-preserved : goal.loop-t-preserved
loop-t-preserved c =
    let l = c.loop-t in
    let t = l.t - 1 in
    let z : l.t ≡ suc t = omega arith in
    let y : t + 1 ≡ suc t = omega arith in
    let entry = c.entry_at.ensures ∙ (λ i. get_or (ring (plan_of c.args.rings.now) (c.from-north.ensures i)) (y i) 0) in
    folds_down_on l.invariant z (tried_yes l.len (c.push-in-loop-t.ensures (zeros 256)) c.in_ok-len-2.was ∙ ap (run.pushed (run.frontier_of true l.len l.at (zeros 256))) entry)

pub returns-in_err-len-clause-value : goal.returns-in_err-len-clause-value
unfolding first_contexts zeros run.empty_frontier
returns-in_err-len-clause-value c =
    let r = c.args.rings.now in
    let first = tried_no 0 (c.push.ensures (zeros 256)) c.in_err-len.was in
    unless_failed_no (first_contexts (plan_of r)) c.from_residual.ensures (pushed-off _ 1 (down-failed (step r) (λ i v. pushed-off v _) (length (ring (plan_of r) 0) - 2) _ first))

pub returns-in_err-len-2-clause-value : goal.returns-in_err-len-2-clause-value
unfolding first_contexts zeros
returns-in_err-len-2-clause-value c =
    let r = c.args.rings.now in
    let l = c.loop-t in
    let t = l.t - 1 in
    let y : t + 1 ≡ suc t = omega arith in
    let entry = c.entry_at.ensures ∙ (λ i. get_or (ring (plan_of r) (c.from-north.ensures i)) (y i) 0) in
    let inner = folds_down-failed (step r) (λ i v. pushed-off v _) l.invariant (omega arith) (tried_no l.len (c.push-in-loop-t.ensures (zeros 256) ∙ ap (run.pushed (run.frontier_of true l.len l.at (zeros 256))) entry) c.in_err-len-2.was) in
    unless_failed_no (first_contexts (plan_of r)) c.from_residual-in_err-len-2.ensures (pushed-off _ 1 inner)

pub returns-in_err-len-3-clause-value : goal.returns-in_err-len-3-clause-value
unfolding first_contexts zeros
returns-in_err-len-3-clause-value c =
    let r = c.args.rings.now in
    let l = c.loop-t in
    unless_failed_no (first_contexts (plan_of r)) c.from_residual-in_err-len-3.ensures (tried_no l.len (c.push-2.ensures (zeros 256) ∙ ap (λ v. run.pushed v 1) (folds_down_end l.invariant (omega arith))) c.in_err-len-3.was)

pub returns-clause-value : goal.returns-clause-value
unfolding first_contexts zeros
returns-clause-value c =
    let l = c.loop-t in
    unless_failed_yes (tried_yes l.len (c.push-2.ensures (zeros 256)) c.in_ok-len-3.was ∙ ap (λ v. run.pushed v 1) (folds_down_end l.invariant (omega arith)))
