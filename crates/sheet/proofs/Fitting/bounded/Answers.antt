-- bounded meets its contract.
use Rattle.sheet.proofs.Made.{bounded_few, bounded_room}
use Rattle.sheet.proofs.Fitting.bounded.Goals as goal

pub invariant_of-result : goal.invariant_of-result
invariant_of-result c =
    let a = c.args.self.now in
    let s = a.sheet.now in
    let p = c.plan.ensures in
    record { few = bounded_few s a.fits p.n; room = bounded_room s a.fits p.sizes p.n }
