-- bad_dart meets its contract.
use mathlib.Core.Path.{sym, ap, ◌∙◌}
use mathlib.Core.Bool.{not}
use Rattle.rings.specs.Tables.{plan_of}
use Rattle.faces.proofs.FaceTests.{bad_tests}
use Rattle.faces.proofs.bad_dart.Goals as goal

pub returns-then-not-is_outer : goal.returns-then-not-is_outer
returns-then-not-is_outer c =
    let a = c.args in
    ap not c.is_face.ensures ∙ bad_tests (plan_of a.rings.now) a.u a.v c.third_of.ensures (sym c.is_outer.ensures ∙ c.if-not-is_outer.true)
