-- has_second meets its contract.
use mathlib.Core.Path.{◌∙◌}
use mathlib.Core.Bool.{Bool, ◌&&◌}
use Prim.Native.Nat.{ℕ}
use lib.Dec.{ltb}
use lib.ListN.{get_or}
use borrow.Author.Tests.{tests}
use borrow.Author.Rules.{rules}
use Rattle.lists.proofs.Chains.{any_in_range}
use Rattle.model.specs.Plan.{neighbour}
use Rattle.rings.specs.Tables.{plan_of}
use Rattle.scan.specs.Scanned.{has_third, has_second}
use Rattle.scan.proofs.RingTests.{third_near, any_above}
use Rattle.scan.proofs.WithSuccessors.has_second.Goals as goal

pub returns : goal.returns
unfolding has_second
returns c =
    let a = c.args in
    let r = a.self.now.rings in
    let p = plan_of r in
    let f : ℕ → Bool = has_third p a.a in
    any_in_range (λ (i : ℕ). ltb a.a (neighbour (get_or r.entries.now i 0)) && f (neighbour (get_or r.entries.now i 0))) c.span.result.start c.span.result.end c.any.ensures.ran (λ x b g k. search (rules, tests))
    ∙ any_above r a.self.now.fits a.a a.a f (third_near p a.a) c.span.ensures.start c.span.ensures.end
