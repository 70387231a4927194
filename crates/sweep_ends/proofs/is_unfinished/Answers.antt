-- is_unfinished meets its contract.
use mathlib.Core.Path.{ap, ◌∙◌}
use mathlib.Core.List.{[], ◌∷◌}
use mathlib.Core.Bool.{Bool, not}
use Prim.Native.Nat.{ℕ}
use borrow.Author.Tests.{tests}
use borrow.Author.Rules.{rules}
use Rattle.lists.specs.Tests.{same_list}
use Rattle.lists.specs.Folds.{some_within}
use Rattle.model.specs.Plan.{south}
use Rattle.model.specs.Sweep.{below}
use Rattle.rings.specs.Tables.{plan_of}
use Rattle.lists.proofs.Chains.{some_in_range}
use Rattle.sweep_ends.specs.Ends.{unfinished}
use Rattle.sweep_ends.proofs.is_unfinished.Goals as goal

pub returns : goal.returns
unfolding unfinished
returns c =
    let s = c.args.front.now in
    let q : ℕ → Bool = λ k. not (same_list (below (plan_of s.located.rings) s.f.now k) (south ∷ [])) in
    some_in_range q 1 c.saturating_sub.result c.any.ensures.ran (λ x r f k. search (rules, tests)) ∙ ap (some_within q 1) c.saturating_sub.ensures
