-- bad_entry meets its contract.
use mathlib.Core.Path.{◌∙◌}
use mathlib.Core.Bool.{Bool}
use Prim.Native.Nat.{ℕ, ◌-◌}
use lib.ListN.{get_or}
use borrow.Author.Tests.{tests}
use borrow.Author.Rules.{rules}
use Rattle.lists.proofs.Chains.{any_in_range, any_entry}
use Rattle.model.specs.Plan.{ring}
use Rattle.file_rings.specs.Plans.{plan_of_file}
use Rattle.file_ring_rules.proofs.Whole.{bad_in, whole_entry}
use Rattle.file_ring_rules.proofs.bad_entry.Goals as goal

pub returns : goal.returns
returns c =
    let r = c.args.rings.now in
    let u = c.args.u in
    let l = ring (plan_of_file r) u in
    let e = c.size_of.result in
    let test : ℕ → Bool = λ i. bad_in r.n u (get_or l i 0) in
    any_in_range test 0 e c.any.ensures.ran (λ x b f k. search (rules, tests))
    ∙ any_entry l (bad_in r.n u) 0 (e - 0)
    ∙ whole_entry r.starts.now r.sizes.now r.file.now r.n u e c.size_of.ensures.value
