-- lists_stray meets its contract.
use mathlib.Core.Path.{◌≡◌, sym, ap, ◌∙◌}
use mathlib.Core.Bool.{Bool}
use mathlib.Core.List.{map}
use Prim.Native.Nat.{ℕ, ◌-◌}
use native.Mathlib.Omega.{arith}
use lib.ListN.{get_or}
use borrow.Author.Tests.{tests}
use borrow.Author.Rules.{rules}
use Rattle.std.specs.List.{list_any}
use Rattle.lists.specs.Spans.{stretch}
use Rattle.lists.proofs.Chains.{any_in_range, any_entry}
use Rattle.lists.proofs.Tests.{list_any-map}
use Rattle.model.specs.Plan.{neighbour}
use Rattle.rings.specs.Tables.{size_of}
use Rattle.rings.proofs.Rows.{ring-rows}
use Rattle.sweep_by_counts.specs.Strays.{stray, lists_stray}
use Rattle.sweep_by_counts.proofs.first.lists_stray.Goals as goal

pub returns : goal.returns
unfolding lists_stray stray
returns c =
    let r = c.args.rings.now in
    let u = c.args.u in
    let a = c.span.result.start in
    let e = c.span.result.end in
    let start = c.span.ensures.start in
    let is : ℕ → Bool = stray c.args.marks.now c.args.l c.args.r in
    let f : ℕ → Bool = λ x. is (neighbour x) in
    let k : e - a ≡ size_of r.sizes.now r.n u = omega arith in
    any_in_range (λ i. f (get_or r.entries.now i 0)) a e c.any.ensures.ran (λ x b g k. search (rules, tests))
    ∙ any_entry r.entries.now f a (e - a)
    ∙ list_any-map is neighbour (stretch r.entries.now a (e - a))
    ∙ (λ i. list_any is (map neighbour (stretch r.entries.now (start i) (k i))))
    ∙ sym (ap (list_any is) (ring-rows r.starts.now r.sizes.now r.entries.now r.n u))
