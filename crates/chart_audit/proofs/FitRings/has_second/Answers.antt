-- has_second meets its contract.
use mathlib.Core.Path.{sym, ◌∙◌}
use mathlib.Core.Bool.{Bool, ◌&&◌}
use Prim.Native.Nat.{ℕ}
use lib.Dec.{ltb}
use borrow.Author.Tests.{tests}
use borrow.Author.Rules.{rules}
use Rattle.lists.proofs.Chains.{any_in_range}
use Rattle.rings.specs.Tables.{plan_of}
use Rattle.rings.proofs.Rows.{count-rows}
use Rattle.scan.specs.Scanned.{has_third, has_second}
use Rattle.chart_audit.proofs.Triples.{any_after}
use Rattle.chart_audit.proofs.FitRings.has_second.Goals as goal

pub returns : goal.returns
unfolding has_second
returns c =
    let a = c.args in
    let r = a.self.now.rings in
    let f : ℕ → Bool = has_third (plan_of r) a.a in
    any_in_range (λ (x : ℕ). ltb a.a x && f x) 0 r.n c.any.ensures.ran (λ x b g k. search (rules, tests))
    ∙ any_after (plan_of r) r.n a.a f (sym (count-rows r.starts.now r.sizes.now r.entries.now r.n))
