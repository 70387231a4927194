-- has_third meets its contract.
use mathlib.Core.Path.{◌≡◌, ap, ◌∙◌}
use mathlib.Core.Bool.{Bool, true, ◌&&◌}
use Prim.Native.Nat.{ℕ}
use lib.Dec.{ltb}
use lib.ListN.{get_or}
use borrow.Author.Tests.{tests}
use borrow.Author.Rules.{rules}
use Rattle.lists.proofs.Chains.{any_in_range}
use Rattle.model.specs.Plan.{neighbour, adjacent}
use Rattle.model.specs.Scan.{enclosing}
use Rattle.rings.specs.Tables.{plan_of}
use Rattle.scan.specs.Scanned.{has_third}
use Rattle.scan.proofs.RingTests.{enclosing_near, any_above}
use Rattle.scan.proofs.WithSuccessors.has_third.Goals as goal
use Rattle.scan.proofs.WithSuccessors.has_third.Goals.{then-size_of, else-size_of}

pub returns : goal.returns
unfolding has_third
returns c =
    let a = c.args in
    let r = a.self.now.rings in
    let p = plan_of r in
    let f : ℕ → Bool = λ x. enclosing p (a.a, a.b, x) in
    let u = c.if-size_of.u in
    let listed : (x : ℕ) → f x ≡ true → adjacent p u x ≡ true = elim c.if-size_of.branch [
      | then-size_of w ↦ λ x e. ap (λ (v : ℕ). adjacent p v x) w.u-is ∙ (enclosing_near p a.a a.b x e).1
      | else-size_of w ↦ λ x e. ap (λ (v : ℕ). adjacent p v x) w.u-is ∙ (enclosing_near p a.a a.b x e).2
    ] in
    any_in_range (λ (i : ℕ). ltb a.b (neighbour (get_or r.entries.now i 0)) && f (neighbour (get_or r.entries.now i 0))) c.span.result.start c.span.result.end c.any.ensures.ran (λ x b g k. search (rules, tests))
    ∙ any_above r a.self.now.fits u a.b f listed c.span.ensures.start c.span.ensures.end
