-- agreeing meets its contract.
use mathlib.Core.Path.{◌≡◌, ◌∙◌}
use mathlib.Core.Bool.{true, false, not}
use Prim.Native.Nat.{ℕ}
use borrow.Author.Rules.{rules}
use borrow.Author.Tests.{tests}
use lib.ListN.{get_or}
use lib.Dec.{eqb}
use Rattle.std.proofs.lemmas.Iterator.{first_from_Range}
use Rattle.comparison.specs.Bytes as lines
use Rattle.lists.proofs.Found.{found_or}
use Rattle.comparison.proofs.agreeing.Goals as goal

pub returns : goal.returns
unfolding lines.agreeing
returns c =
    let a = c.args.a.now in
    let b = c.args.b.now in
    c.unwrap_or.ensures ∙ found_or (λ (i : ℕ). not (eqb (get_or a i 0) (get_or b i 0))) c.args.k c.find.result
    (first_from_Range _ _ _ c.find.result (λ (i : ℕ). not (eqb (get_or a i 0) (get_or b i 0)) ≡ true) (λ (i : ℕ). not (eqb (get_or a i 0) (get_or b i 0)) ≡ false)
    c.find.ensures.ran (λ x q k. search (rules, tests)) (λ x q k. search (rules, tests)))
