-- index_of meets its contract.
use mathlib.Core.Path.{refl, ap, ◌∙◌}
use mathlib.Core.List.{map}
use mathlib.Core.Bool.{Bool}
use Prim.Native.Nat.{ℕ, ◌-◌}
use native.Mathlib.Omega.{arith}
use lib.Dec.{eqb}
use lib.ListN.{get_or}
use borrow.Author.Tests.{tests}
use borrow.Author.Rules.{rules}
use Rattle.std.specs.Prelude.{Option}
use Rattle.std.specs.Option.{unwrap_or}
use Rattle.std.proofs.lemmas.Iterator.{YieldsList-from_range}
use Rattle.std.proofs.lemmas.Iterator.Search.{position_from_yields_List}
use Rattle.std.proofs.lemmas.List.FromFn.{length-range_with_len}
use Rattle.lists.specs.Parts.{index_of}
use Rattle.lists.specs.Spans.{span}
use Rattle.lists.proofs.Chains.{place_entry, place_or}
use Rattle.model.specs.Plan.{neighbour, ring}
use Rattle.rings.specs.Tables.{plan_of}
use Rattle.rings.proofs.Rows.{ring_index, ring-size, index_le}
use Rattle.ring_search.proofs.index_of.Goals as goal

pub returns-clause-value : goal.returns-clause-value
returns-clause-value c =
    let r = c.args.rings.now in
    let u = c.args.u in
    let v = c.args.v in
    let l = r.entries.now in
    let a = c.span.result.start in
    let e = c.span.result.end in
    let from = c.span.ensures.start in
    let to = c.span.ensures.end in
    let size = c.size_of.ensures.value in
    let test : ℕ → Bool = λ i. eqb v (neighbour (get_or l i 0)) in
    let found = position_from_yields_List test _ _ c.position.result c.position.ensures.ran (YieldsList-from_range a e (e - a) refl refl) (λ x b f m. search (rules, tests)) in
    let there = place_entry l neighbour v a (e - a) ∙ (λ i. index_of v (map neighbour (span l (from i) (to i)))) ∙ ring_index r.starts.now r.sizes.now l r.n u v in
    let most = index_le v (ring (plan_of r) u) in
    let whole = ring-size r.starts.now r.sizes.now l r.n u in
    c.unwrap_or.ensures ∙ ap (λ (o : Option ℕ). unwrap_or o c.size_of.result) found ∙ place_or _ (length-range_with_len a (e - a) ∙ omega arith) (omega arith) ∙ there
