-- is_from meets its contract.
use mathlib.Core.Path.{ap, ◌∙◌}
use mathlib.Core.Bool.{Bool}
use Prim.Native.Nat.{ℕ, ◌-◌}
use lib.Dec.{eqb}
use lib.ListN.{get_or}
use borrow.Author.Tests.{tests}
use borrow.Author.Rules.{rules}
use Rattle.lists.specs.Tests.{member}
use Rattle.lists.specs.Spans.{span}
use Rattle.lists.proofs.Chains.{any_in_range, any_entry}
use Rattle.model.specs.Plan.{ring}
use Rattle.file_rings.specs.Plans.{plan_of_file}
use Rattle.file_rings.proofs.FileRings.is_from.Goals as goal

pub returns : goal.returns
returns c =
    let a = c.args in
    let l = ring (plan_of_file a.self.now) a.u in
    let e = c.size_of.result in
    let test : ℕ → Bool = λ i. eqb a.v (get_or l i 0) in
    any_in_range test a.a e c.any.ensures.ran (λ x b f k. search (rules, tests))
    ∙ any_entry l (eqb a.v) a.a (e - a.a)
    ∙ ap (λ (k : ℕ). member a.v (span l a.a k)) c.size_of.ensures.value
