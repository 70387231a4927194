-- Ranges of numbers gone through in order: what is done at each, and whether some passes.
use Rattle.std.specs.Prelude.{ℕ, zero, suc, ◌-◌, Bool, true, false, cond}

-- the step at i, i + 1, .., k numbers in all
unfoldable pub each : {A : Type 0} → (ℕ → A → A) → ℕ → ℕ → A → A
each step i zero s = s
each step i (suc k) s = each step (suc i) k (step i s)

-- the step at each number from i up to e, e excluded
abbrev pub through : {A : Type 0} → (ℕ → A → A) → ℕ → ℕ → A → A
through step i e s = each step i (e - i) s

-- the step at k − 1, .., 0
unfoldable pub each_down : {A : Type 0} → (ℕ → A → A) → ℕ → A → A
each_down step zero s = s
each_down step (suc k) s = each_down step k (step k s)

-- some of the k numbers from i on passes
unfoldable pub some_of : (ℕ → Bool) → ℕ → ℕ → Bool
some_of p i zero = false
some_of p i (suc k) = cond (p i) true (some_of p (suc i) k)

-- some number from i up to e, e excluded, passes
abbrev pub some_within : (ℕ → Bool) → ℕ → ℕ → Bool
some_within p i e = some_of p i (e - i)
