-- scan meets its contract.
use native.Mathlib.Omega.{arith}
use Rattle.plan_bounds.proofs.Bounds.{fit_few}
use Rattle.scan.proofs.scan.Goals as goal

pub scan_in-requires-else-fit-le-SOME_CONTEXTS : goal.scan_in-requires-else-fit-le-SOME_CONTEXTS
scan_in-requires-else-fit-le-SOME_CONTEXTS c =
    let few = fit_few c.args.fit.now.plan c.args.fit.now.fits in
    (omega arith, omega arith)
