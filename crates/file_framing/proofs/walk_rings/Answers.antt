-- walk_rings meets its contract.
use mathlib.Core.Path.{◌≡◌, refl}
use Rattle.std.proofs.lemmas.Result.{err_from_is_err_and}
use Rattle.file_framing.proofs.Walks.{walks_start, walks_refused, walks_on, walks_sizes, walks_at, walks_end}
use native.Mathlib.Omega.{arith}
use Rattle.file_framing.proofs.walk_rings.Goals as goal

pub loop-i-init : goal.loop-i-init
loop-i-init c = walks_start refl

pub returns-in_err-size-clause-result_value : goal.returns-in_err-size-clause-result_value
returns-in_err-size-clause-result_value c =
    let p = err_from_is_err_and c.from_residual.result c.from_residual.ensures.1 in
    rw (p.1, p.2) (walks_refused c.loop-i.invariant (omega arith) c.in_err-size.ensures.result_value)

pub loop-i-preserved : goal.loop-i-preserved
loop-i-preserved c =
    let e = c.in_ok-size.ensures in
    walks_on c.loop-i.invariant (omega arith) c.requires e.ring_below e.result_value (omega arith) (omega arith) refl

pub returns-clause-result_value : goal.returns-clause-result_value
returns-clause-result_value c =
    let v = c.loop-i.invariant in
    let r = v.reached in
    let all : c.loop-i.i ≡ c.args.n = omega arith in
    walks_end v all c.requires

pub returns-clause-walk_bounds : goal.returns-clause-walk_bounds
returns-clause-walk_bounds c =
    let v = c.loop-i.invariant in
    let r = v.reached in
    let all : c.loop-i.i ≡ c.args.n = omega arith in
    (walks_sizes v all, let m = v.near in omega arith, walks_at v all)
