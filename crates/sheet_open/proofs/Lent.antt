-- 4 to 7, in the order in which they are judged in a file.
use Prim.Native.Nat.{ℕ, ◌≤◌}
use mathlib.Core.Path.{◌≡◌, sym}
use mathlib.Core.Bool.{Bool}
use lib.Dec.{eqb}
use borrow.Author.Tests.{le-leb}
use Rattle.lists.specs.Ranges.{lowest}
use Rattle.model.specs.Outcome.{refused, passed, require, rule}
use Rattle.model.specs.Plan.{Plan, bad_entry, bad_repeat, unreturned, entry_count, dart_count}
use Rattle.sheet_open.specs.Opening.{file_rules}

-- a rule that no number below n breaks is kept
pub rule_kept : (k n : ℕ) (bad : ℕ → Bool) {u : ℕ} → u ≡ lowest bad n → n ≤ u → passed ≡ rule k n bad
rule_kept k n bad {u} e h = sym (rw (← e, le-leb n u h))

module _ (n : ℕ) (p : Plan) where
  pub four_refused : (k u : ℕ) → refused k u ≡ rule 4 n (bad_entry p) → refused k u ≡ file_rules n p
  unfolding file_rules
  four_refused k u e = rw (← e)

  module _ (e4 : passed ≡ rule 4 n (bad_entry p)) where
    pub five_refused : (k u : ℕ) → refused k u ≡ rule 5 n (bad_repeat p) → refused k u ≡ file_rules n p
    unfolding file_rules
    five_refused k u e = rw (← e4, ← e)

    module _ (e5 : passed ≡ rule 5 n (bad_repeat p)) where
      pub six_refused : (k u : ℕ) → refused k u ≡ rule 6 n (unreturned p) → refused k u ≡ file_rules n p
      unfolding file_rules
      six_refused k u e = rw (← e4, ← e5, ← e)

      -- 4 to 6 kept: 7 is what is left
      pub seven_judged : passed ≡ rule 6 n (unreturned p) → {t : Bool} → eqb (entry_count p) (dart_count n) ≡ t → require t 7 0 ≡ file_rules n p
      unfolding file_rules
      seven_judged e6 e = rw (← e4, ← e5, ← e6, e)
