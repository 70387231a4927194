-- third_of meets its contract.
use Rattle.rings.specs.Tables.{plan_of}
use native.Mathlib.Omega.{arith}
use Rattle.scan.proofs.RingTests.{successor_third}
use Rattle.scan.proofs.WithSuccessorsFaceSteps.third_of.Goals as goal

pub returns-in-Some : goal.returns-in-Some
returns-in-Some c =
    let a = c.args in
    let s = a.self.now in
    successor_third (plan_of s.rings) s.fits s.table.now s.own a.u a.v c.successor.ensures (omega arith)
