-- len meets its contract.
use mathlib.Core.Path.{◌≡◌, ap, ◌∙◌}
use mathlib.Core.Bool.{Bool, true, false}
use Prim.Native.Nat.{ℕ}
use borrow.Author.Rules.{rules}
use borrow.Author.Tests.{tests}
use lib.ListN.{get_or}
use lib.Dec.{eqb}
use Rattle.std.proofs.lemmas.Iterator.{first_from_Range}
use Rattle.lists.specs.Ranges.{lowest}
use Rattle.lists.proofs.Found.{found_or}
use Rattle.sweep_frontier.specs.Frontiers.{entries_read, depth_of}
use Rattle.sweep_frontier.proofs.Moves.{lowest-index}
use Rattle.sweep_frontier.proofs.below.Below.len.Goals.{After-unwrap_or}
use Rattle.sweep_frontier.proofs.below.Below.len.Goals as goal

-- what is returned is the position of the left frontier neighbour
place : (c : After-unwrap_or) → c.unwrap_or.result ≡ depth_of c.args.self.now
place c =
    let b = c.args.self.now in
    let is : ℕ → Bool = λ t. eqb b.left (get_or (entries_read b) t 0) in
    c.unwrap_or.ensures ∙ found_or is c.reach-e.result c.find.result
    (first_from_Range _ _ _ c.find.result (λ (t : ℕ). is t ≡ true) (λ (t : ℕ). is t ≡ false) c.find.ensures.ran (λ x q k. search (rules, tests)) (λ x q k. search (rules, tests)))
    ∙ ap (lowest is) c.reach-e.ensures.value ∙ lowest-index b.left (entries_read b)

pub returns-clause-value : goal.returns-clause-value
returns-clause-value c = place c
