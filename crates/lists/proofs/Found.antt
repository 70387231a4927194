-- The lowest number that passes a test, by what `find` says of a range: `find` gives that number, or none where none passes.
use Prim.Native.Nat.{ℕ, zero, suc, ◌≤◌, ◌<◌}
use mathlib.Core.Path.{◌≡◌, refl, sym, ap, ◌∙◌, subst}
use mathlib.Core.Bool.{Bool, true, false, cond}
use native.Mathlib.Omega.{arith}
use lib.Dec.{leb}
use borrow.Author.Tests.{le-leb, lt-leb}
use Rattle.std.specs.Prelude.{Option, Some, None, MatchOption}
use Rattle.std.specs.Option.{unwrap_or}
use Rattle.lists.specs.Ranges.{lowest}
use Rattle.lists.proofs.Loops.{FindsLowest, lowest_start, lowest_hit, lowest_on, lowest_end}

module _ (f : ℕ → Bool) (n : ℕ) where
  -- what `find` says of the numbers below n
  abbrev pub Found : Option ℕ → Type 0
  Found r = MatchOption r ((k : ℕ) → 0 ≤ k → k < n → f k ≡ false) (λ i. (0 ≤ i) × (i < n) × (f i ≡ true) × ((k : ℕ) → 0 ≤ k → k < i → f k ≡ false))

  -- none of the numbers below j passes
  lowest_to : (j : ℕ) → j ≤ n → ((k : ℕ) → 0 ≤ k → k < j → f k ≡ false) → FindsLowest f n j
  lowest_to zero h none = lowest_start
  lowest_to (suc j) h none = lowest_on (lowest_to j (omega arith) (λ k p q. none k p (omega arith))) refl (omega arith) (none j (omega arith) (omega arith))

  -- what is said of the lowest that passes, or where none does, is what is said of the number found, or of none
  module _ {A : Type 0} (all : A) (one : ℕ → A) {r : Option ℕ} (found : Found r) where
    pub found_none : r ≡ None → all ≡ cond (leb n (lowest f n)) all (one (lowest f n))
    found_none e =
        let none = subst Found e found in
        let q = lowest_end (lowest_to n (omega arith) none) (omega arith) in
        sym (rw (le-leb n (lowest f n) (omega arith)))

    pub found_one : {i : ℕ} → r ≡ Some i → one i ≡ cond (leb n (lowest f n)) all (one (lowest f n))
    found_one {i} e =
        let at = subst Found e found in
        let h = at.1 in
        let q = lowest_hit (lowest_to i (omega arith) at.3) h at.2 in
        ap one q ∙ sym (rw (lt-leb n (lowest f n) (omega arith)))

  -- the number found, or n, is the lowest that passes
  pub found_or : (r : Option ℕ) → Found r → unwrap_or r n ≡ lowest f n
  found_or None none = lowest_end (lowest_to n (omega arith) none) (omega arith)
  found_or (Some i) found = lowest_hit (lowest_to i (let h = found.1 in omega arith) found.3) found.1 found.2
