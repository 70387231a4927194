-- repeats_at meets its contract.
use mathlib.Core.Path.{refl, ◌∙◌}
use mathlib.Core.Bool.{Bool}
use Prim.Native.Nat.{ℕ, ◌+◌, ◌-◌}
use lib.ListN.{get_or}
use native.Mathlib.Omega.{arith}
use borrow.Author.Tests.{tests}
use borrow.Author.Rules.{rules}
use Rattle.std.proofs.lemmas.Iterator.{YieldsList-from_range}
use Rattle.std.proofs.lemmas.Iterator.Search.{any_from_yields_List}
use Rattle.lists.specs.Tests.{member}
use Rattle.lists.specs.Spans.{span}
use Rattle.lists.proofs.Chains.{any_again}
use Rattle.model.specs.Plan.{ring}
use Rattle.file_rings.specs.Plans.{plan_of_file}
use Rattle.rings.specs.Tables.{size_of}
use Rattle.file_ring_rules.proofs.Whole.{whole_repeat}
use Rattle.file_ring_rules.proofs.repeats_at.Goals as goal

pub returns : goal.returns
returns c =
    let r = c.args.rings.now in
    let u = c.args.u in
    let l = ring (plan_of_file r) u in
    let e = size_of r.sizes.now r.n u in
    let test : ℕ → Bool = λ i. member (get_or l i 0) (span l (i + 1) e) in
    any_from_yields_List test _ _ c.any.result c.any.ensures.ran (YieldsList-from_range 0 c.size_of.result (e - 0) refl (let s = c.size_of.ensures.value in omega arith)) (λ x b f k. search (rules, tests))
    ∙ any_again l e 0 (e - 0) (omega arith)
    ∙ whole_repeat r.starts.now r.sizes.now r.file.now r.n u e refl
