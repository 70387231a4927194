-- mark_at meets its contract.
use native.Mathlib.Omega.{arith}
use Rattle.label_rules.proofs.ByTable.{few}
use Rattle.label_rules.proofs.Labelled.mark_at.Goals as goal

pub bounds-self-u : goal.bounds-self-u
bounds-self-u c =
    let s = c.args.self.now in
    let most = few s.rings s.fits in
    let room = s.own.room in
    let (h, k) = c.requires in
    omega arith
