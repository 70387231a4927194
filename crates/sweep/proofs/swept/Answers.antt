-- swept meets its contract.
use native.Mathlib.Omega.{arith}
use Rattle.plan_bounds.proofs.Bounds.{fit_few}
use Rattle.sweep.proofs.swept.Goals as goal

pub swept_in-requires-else-fit-le-SOME_CONTEXTS-clause-room : goal.swept_in-requires-else-fit-le-SOME_CONTEXTS-clause-room
swept_in-requires-else-fit-le-SOME_CONTEXTS-clause-room c =
    let few = fit_few c.args.fit.now.plan c.args.fit.now.fits in
    (omega arith, omega arith)
