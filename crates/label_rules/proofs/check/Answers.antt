-- check meets its contract.
use native.Mathlib.Omega.{arith}
use Rattle.plan_bounds.proofs.Bounds.{fit_few}
use Rattle.label_rules.proofs.check.Goals as goal

pub check_in-requires-else-fit-le-SOME_CONTEXTS : goal.check_in-requires-else-fit-le-SOME_CONTEXTS
check_in-requires-else-fit-le-SOME_CONTEXTS c =
    let few = fit_few c.args.fit.now.plan c.args.fit.now.fits in
    (omega arith, omega arith)
