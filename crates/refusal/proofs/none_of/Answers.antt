-- none_of meets its contract.
use mathlib.Core.Path.{◌≡◌, ◌∙◌, subst}
use mathlib.Core.Bool.{true, false}
use Prim.Native.Nat.{ℕ, ◌<◌}
use native.Mathlib.Omega.{arith}
use borrow.Author.Tests.{tests}
use borrow.Author.Rules.{rules}
use Rattle.std.proofs.Common.{◌^◌}
use Rattle.std.proofs.lemmas.Iterator.{first_from_Range}
use Rattle.lists.proofs.Found.{Found, found_none, found_one}
use Rattle.model.specs.Outcome.{passed, refused}
use Rattle.refusal.proofs.Bounds.{found-below}
use Rattle.refusal.proofs.none_of.Goals as goal

pub returns-in-Some : goal.returns-in-Some
returns-in-Some g c = λ k bad says refusals.
    let n = c.args.n in
    let small = c.ranges.n.fits in
    let hits : ℕ → Type 0 = λ (u : ℕ). u < 2 ^ 64 → bad u ≡ true in
    let misses : ℕ → Type 0 = λ (u : ℕ). u < 2 ^ 64 → bad u ≡ false in
    let first = first_from_Range _ _ _ c.find.result hits misses c.find.ensures.ran (λ x q f. search (rules, tests, says)) (λ x q f. search (rules, tests, says)) in
    let found = found-below bad n (2 ^ 64) (omega arith) c.find.result first in
    let low : c.in-Some.u < n = (subst (Found bad n) c.in-Some.is found).1 in
    let (number, place) = refusals c.in-Some.u c.refuse.result (omega arith) c.refuse.ensures in
    (λ i. refused (number i) (place i)) ∙ found_one bad n passed (refused k) found c.in-Some.is

pub returns : goal.returns
returns g c = λ k bad says refusals.
    let n = c.args.n in
    let small = c.ranges.n.fits in
    let hits : ℕ → Type 0 = λ (u : ℕ). u < 2 ^ 64 → bad u ≡ true in
    let misses : ℕ → Type 0 = λ (u : ℕ). u < 2 ^ 64 → bad u ≡ false in
    let first = first_from_Range _ _ _ c.find.result hits misses c.find.ensures.ran (λ x q f. search (rules, tests, says)) (λ x q f. search (rules, tests, says)) in
    let found = found-below bad n (2 ^ 64) (omega arith) c.find.result first in
    found_none bad n passed (refused k) found c.in-None.is
