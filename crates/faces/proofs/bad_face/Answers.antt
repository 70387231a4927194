-- bad_face meets its contract.
use mathlib.Core.Path.{◌∙◌}
use mathlib.Core.Bool.{Bool}
use Prim.Native.Nat.{ℕ, ◌-◌}
use lib.ListN.{get_or}
use borrow.Author.Tests.{tests}
use borrow.Author.Rules.{rules}
use Rattle.lists.proofs.Chains.{any_in_range, any_entry}
use Rattle.model.specs.Plan.{ring}
use Rattle.rings.specs.Tables.{plan_of}
use Rattle.faces.proofs.FaceTests.{bad_dart, ring_long, face_darts}
use Rattle.faces.proofs.bad_face.Goals as goal

pub returns : goal.returns
returns c =
    let r = c.args.rings.now in
    let u = c.args.u in
    let p = plan_of r in
    let e = c.size_of.result in
    let test : ℕ → Bool = λ i. bad_dart p u (get_or (ring p u) i 0) in
    any_in_range test 0 e c.any.ensures.ran (λ x b f k. search (rules, tests))
    ∙ any_entry (ring p u) (bad_dart p u) 0 (e - 0)
    ∙ face_darts p u e (ring_long r.starts.now r.sizes.now r.entries.now r.n u c.size_of.ensures.value)
