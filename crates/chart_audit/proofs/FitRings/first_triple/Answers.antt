-- first_triple meets its contract.
use Prim.Native.Nat.{ℕ, ◌+◌, ◌-◌}
use mathlib.Core.Path.{◌≡◌, refl, sym, ap, ◌∙◌}
use native.Mathlib.Numerals.{add-one}
use native.Mathlib.Omega.{arith}
use borrow.Author.Tests.{tests}
use borrow.Author.Rules.{rules}
use Rattle.std.specs.Prelude.{Some, None}
use Rattle.std.proofs.lemmas.Iterator.{first_from_Range}
use Rattle.lists.specs.Ranges.{from}
use Rattle.model.specs.Plan.{context_count, contexts}
use Rattle.model.specs.Scan.{contexts_after, enclosing}
use Rattle.rings.specs.declared.Rings as rings
use Rattle.rings.specs.Tables.{plan_of}
use Rattle.rings.proofs.Rows.{count-rows}
use Rattle.plan_bounds.proofs.Fits.{fit-says}
use Rattle.scan.specs.Scanned.{has_third, has_second}
use Rattle.scan.proofs.Scans.{find_in_range, by_first, by_second, by_third}
use Rattle.chart_audit.proofs.FitRings.first_triple.Goals as goal

-- the ranges of the code are the contexts, and those after one
module _ (r : rings.Rings) where
  size : context_count (plan_of r) ≡ r.n
  size = count-rows r.starts.now r.sizes.now r.entries.now r.n

  whole : from 0 (r.n - 0) ≡ contexts (plan_of r)
  whole = let s = size in let z : r.n - 0 ≡ context_count (plan_of r) = omega arith in ap (from 0) z

  rest : (a : ℕ) → from (a + 1) (r.n - (a + 1)) ≡ contexts_after (plan_of r) a
  unfolding contexts_after
  rest a = λ i. from (add-one a i) (sym size i - add-one a i)

pub returns-in_err-a : goal.returns-in_err-a
returns-in_err-a c =
    let r = c.args.self.now.rings in
    let p = plan_of r in
    let first = find_in_range (has_second p) 0 r.n (contexts p) _ _ None (whole r) c.in_err-a.ensures.ran (λ x b q k. search (rules, tests)) in
    c.from_residual.ensures ∙ by_first p None first

pub overflow_add-a : goal.overflow_add-a
overflow_add-a c =
    let s = c.args.self.now in
    let found = first_from_Range _ _ _ (Some c.in_ok-a.a) (λ x. x ≡ x) (λ x. x ≡ x) c.in_ok-a.ensures.ran (λ x q k. refl) (λ x q k. search (rules, tests)) in
    let below = found.1 in
    let few = (fit-says (plan_of s.rings) s.fits).few in
    let size = size s.rings in
    omega arith

pub returns-in_err-b : goal.returns-in_err-b
returns-in_err-b c =
    let r = c.args.self.now.rings in
    let p = plan_of r in
    let a = c.in_ok-a.a in
    let first = find_in_range (has_second p) 0 r.n (contexts p) _ _ (Some a) (whole r) c.in_ok-a.ensures.ran (λ x b q k. search (rules, tests)) in
    let second = find_in_range (has_third p a) (a + 1) r.n (contexts_after p a) _ _ None (rest r a) c.in_err-b.ensures.ran (λ x b q k. search (rules, tests)) in
    c.from_residual-in_err-b.ensures ∙ by_second p a first None second

pub overflow_add-b : goal.overflow_add-b
overflow_add-b c =
    let s = c.args.self.now in
    let found = first_from_Range _ _ _ (Some c.in_ok-b.b) (λ x. x ≡ x) (λ x. x ≡ x) c.in_ok-b.ensures.ran (λ x q k. refl) (λ x q k. search (rules, tests)) in
    let below = found.1 in
    let few = (fit-says (plan_of s.rings) s.fits).few in
    let size = size s.rings in
    omega arith

pub returns-in_err-c : goal.returns-in_err-c
returns-in_err-c c =
    let r = c.args.self.now.rings in
    let p = plan_of r in
    let a = c.in_ok-a.a in
    let b = c.in_ok-b.b in
    let first = find_in_range (has_second p) 0 r.n (contexts p) _ _ (Some a) (whole r) c.in_ok-a.ensures.ran (λ x b q k. search (rules, tests)) in
    let second = find_in_range (has_third p a) (a + 1) r.n (contexts_after p a) _ _ (Some b) (rest r a) c.in_ok-b.ensures.ran (λ x b q k. search (rules, tests)) in
    let third = find_in_range (λ (x : ℕ). enclosing p (a, b, x)) (b + 1) r.n (contexts_after p b) _ _ None (rest r b) c.in_err-c.ensures.ran (λ x b q k. search (rules, tests)) in
    c.from_residual-in_err-c.ensures ∙ by_third p a first b second None third

pub returns : goal.returns
returns c =
    let r = c.args.self.now.rings in
    let p = plan_of r in
    let a = c.in_ok-a.a in
    let b = c.in_ok-b.b in
    let first = find_in_range (has_second p) 0 r.n (contexts p) _ _ (Some a) (whole r) c.in_ok-a.ensures.ran (λ x b q k. search (rules, tests)) in
    let second = find_in_range (has_third p a) (a + 1) r.n (contexts_after p a) _ _ (Some b) (rest r a) c.in_ok-b.ensures.ran (λ x b q k. search (rules, tests)) in
    let third = find_in_range (λ (x : ℕ). enclosing p (a, b, x)) (b + 1) r.n (contexts_after p b) _ _ (Some c.in_ok-c.c) (rest r b) c.in_ok-c.ensures.ran (λ x b q k. search (rules, tests)) in
    by_third p a first b second (Some c.in_ok-c.c) third
