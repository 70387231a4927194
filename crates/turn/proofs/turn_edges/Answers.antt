-- turn_edges meets its contract.
use native.Mathlib.Omega.{arith}
use Rattle.plan_bounds.proofs.Bounds.{fit_few}
use Rattle.turn.proofs.turn_edges.Goals as goal

pub turn_in-requires-else-fit-le-SOME_CONTEXTS-clause-room : goal.turn_in-requires-else-fit-le-SOME_CONTEXTS-clause-room
turn_in-requires-else-fit-le-SOME_CONTEXTS-clause-room c =
    let few = fit_few c.args.fit.now.plan c.args.fit.now.fits in
    (omega arith, omega arith)
