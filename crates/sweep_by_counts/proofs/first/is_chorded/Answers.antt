-- is_chorded meets its contract.
use borrow.Author.Tests.{tests}
use borrow.Author.Rules.{rules}
use Rattle.rings.specs.Tables.{plan_of}
use Rattle.lists.proofs.Chains.{some_in_range}
use Rattle.sweep_by_counts.specs.Strays.{chord_at, chorded}
use Rattle.sweep_by_counts.proofs.first.is_chorded.Goals as goal

pub returns : goal.returns
unfolding chorded
returns c =
    let v = c.args.frontier.now in
    some_in_range (chord_at (plan_of c.args.rings.now) v.marks v.at) 0 v.len c.any.ensures.ran (λ x b g k. search (rules, tests))
