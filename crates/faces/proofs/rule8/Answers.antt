-- rule8 meets its contract.
use mathlib.Core.Path.{◌≡◌}
use mathlib.Core.Bool.{Bool, true, false}
use borrow.Author.Tests.{tests}
use borrow.Author.Rules.{rules}
use Prim.Native.Nat.{ℕ}
use Rattle.std.proofs.lemmas.Iterator.{first_from_Range}
use Rattle.lists.proofs.Found.{found_none, found_one}
use Rattle.model.specs.Outcome.{passed, refused}
use Rattle.model.specs.Plan.{bad_border}
use Rattle.rings.specs.Tables.{plan_of}
use Rattle.faces.proofs.rule8.Goals as goal

pub returns-in-Some : goal.returns-in-Some
returns-in-Some c =
    let r = c.args.rings.now in
    let bad : ℕ → Bool = bad_border (plan_of r) in
    let found = first_from_Range _ _ _ c.find.result (λ (u : ℕ). bad u ≡ true) (λ (u : ℕ). bad u ≡ false) c.find.ensures.ran (λ x q k. search (rules, tests)) (λ x q k. search (rules, tests)) in
    found_one bad 4 passed (refused 8) found c.in-Some.is

pub returns-in-None : goal.returns-in-None
returns-in-None c =
    let r = c.args.rings.now in
    let bad : ℕ → Bool = bad_border (plan_of r) in
    let found = first_from_Range _ _ _ c.find.result (λ (u : ℕ). bad u ≡ true) (λ (u : ℕ). bad u ≡ false) c.find.ensures.ran (λ x q k. search (rules, tests)) (λ x q k. search (rules, tests)) in
    found_none bad 4 passed (refused 8) found c.in-None.is
