-- A plan that passes the quick test keeps the rules.
use Prim.Native.Nat.{ℕ, ◌≤◌, min}
use mathlib.Core.Path.{◌≡◌, sym, ap, ◌∙◌}
use mathlib.Core.Bool.{Bool, true}
use native.Mathlib.Omega.{arith}
use lib.Dec.{eqb}
use borrow.Author.Tests.{eq-eqb}
use Rattle.lists.specs.Ranges.{lowest}
use Rattle.lists.proofs.Ranges.{first-none}
use Rattle.model.specs.Outcome.{Outcome, passed, ◌>>◌, rule, require}
use Rattle.model.specs.Plan.{Plan, context_count, bad_entry, bad_repeat, unreturned, entry_count, dart_count, bad_border, bad_face, plan_rules}
use Rattle.model.specs.Sound.{Sound}
use Rattle.model.proofs.Outcomes.{passed_then, passed-require, rule-passes}
use Rattle.model.proofs.PlanRules as rules
use Rattle.rings.specs.declared.Table.{Table}
use Rattle.rings.specs.Tables.{starts_of, start_of, table, table_of}
use Rattle.rings.proofs.Rows.{count-rows}
use Rattle.plan_bounds.specs.Fits.{fit}
use Rattle.plan_bounds.proofs.Fits.{all-counted, total-is}
use Rattle.plan_check.specs.Sound.{sound}
use Rattle.plan_check.proofs.Sound.{four_kept, five_kept, six_kept, eight_kept, nine_kept}
use Rattle.plan_bounds.proofs.Bounds.{fit_few}

-- ---- what the test says
-- a rule without a place passes
kept-passes : (k n : ℕ) (bad : ℕ → Bool) → n ≤ lowest bad n → rule k n bad ≡ passed
kept-passes k n bad h = (rule-passes k n bad).1 (λ u b. first-none bad 0 n (omega arith) u (omega arith) (omega arith))

module _ (p : Plan) (total : entry_count p ≡ dart_count (context_count p)) (s : sound p ≡ true) where
  abbrev n : ℕ
  n = context_count p

  same : (bad : ℕ → Bool) → n ≡ lowest bad n → n ≤ lowest bad n
  same bad e = omega arith

  rules-kept : plan_rules p ≡ passed
  unfolding plan_rules
  rules-kept =
      let from8 : Outcome (Unit {0}) = rule 8 4 (bad_border p) >> rule 9 n (bad_face p) in
      let from7 : Outcome (Unit {0}) = require (eqb (entry_count p) (dart_count n)) 7 0 >> from8 in
      let from6 : Outcome (Unit {0}) = rule 6 n (unreturned p) >> from7 in
      let from5 : Outcome (Unit {0}) = rule 5 n (bad_repeat p) >> from6 in
      let eight = passed_then (rule 8 4 (bad_border p)) (rule 9 n (bad_face p)) (kept-passes 8 4 (bad_border p) (eight_kept p s)) (kept-passes 9 n (bad_face p) (same (bad_face p) (nine_kept p s))) in
      let seven = passed_then (require (eqb (entry_count p) (dart_count n)) 7 0) from8 (passed-require (eqb (entry_count p) (dart_count n)) 7 0 (eq-eqb (entry_count p) (dart_count n) total)) eight in
      let six = passed_then (rule 6 n (unreturned p)) from7 (kept-passes 6 n (unreturned p) (same (unreturned p) (six_kept p s))) seven in
      let five = passed_then (rule 5 n (bad_repeat p)) from6 (kept-passes 5 n (bad_repeat p) (same (bad_repeat p) (five_kept p s))) six in
      passed_then (rule 4 n (bad_entry p)) from5 (kept-passes 4 n (bad_entry p) (same (bad_entry p) (four_kept p s))) five

-- ---- the test as the code makes it
module _ (t : Table) (fits : fit (table_of t) ≡ true) {k d : ℕ} (entries : k ≡ start_of t.sizes.now (min t.n 200)) (due : d ≡ dart_count t.n) (same : k ≡ d) where
  -- the count of 7
  total : entry_count (table_of t) ≡ dart_count (context_count (table_of t))
  unfolding table
  total =
      let few = fit_few t fits in
      total-is t.sizes.now t.entries.now t.n few
      ∙ sym (all-counted t.sizes.now few entries)
      ∙ same
      ∙ due
      ∙ ap dart_count (sym (count-rows (starts_of t.sizes.now) t.sizes.now t.entries.now t.n))

  -- the plan keeps the rules
  pub ruled-sound : sound (table_of t) ≡ true → Sound (table_of t)
  ruled-sound quick = rules.sound (table_of t) (rules-kept (table_of t) total quick)
