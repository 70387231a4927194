-- position_of meets its contract.
use mathlib.Core.Path.{refl}
use Rattle.turn.proofs.Turns.{position_found, position_missing}
use native.Mathlib.Omega.{arith}
use Rattle.turn.proofs.FitLocated.position_of.Goals as goal

pub returns-then-i-size_of : goal.returns-then-i-size_of
returns-then-i-size_of c =
    let s = c.args.self.now in
    position_found s.located.rings s.fits s.begins c.args.u c.args.v c.number_at.ensures.value c.index_of-i.ensures.value c.size_of.ensures.value (omega arith)

pub returns : goal.returns
returns c =
    let s = c.args.self.now in
    position_missing s.located.rings s.fits s.begins c.args.u c.args.v refl c.index_of-i.ensures.value c.size_of.ensures.value (omega arith)
