-- unreturned meets its contract.
use mathlib.Core.Path.{◌∙◌}
use mathlib.Core.Bool.{Bool, not}
use Prim.Native.Nat.{ℕ, ◌-◌}
use lib.ListN.{get_or}
use borrow.Author.Tests.{tests}
use borrow.Author.Rules.{rules}
use Rattle.lists.proofs.Chains.{any_in_range, any_entry}
use Rattle.model.specs.Plan.{ring, adjacent}
use Rattle.file_rings.specs.Plans.{plan_of_file}
use Rattle.file_ring_rules.proofs.Whole.{whole_return}
use Rattle.file_ring_rules.proofs.located.Located.unreturned.Goals as goal

pub returns : goal.returns
returns c =
    let r = c.args.self.now.rings in
    let u = c.args.u in
    let l = ring (plan_of_file r) u in
    let e = c.size_of.result in
    let f : ℕ → Bool = λ v. not (adjacent (plan_of_file r) v u) in
    let test : ℕ → Bool = λ i. f (get_or l i 0) in
    any_in_range test 0 e c.any.ensures.ran (λ x b g k. search (rules, tests))
    ∙ any_entry l f 0 (e - 0)
    ∙ whole_return r.starts.now r.sizes.now r.file.now r.n u e c.size_of.ensures.value
