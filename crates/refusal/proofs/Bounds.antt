-- What `find` says of a range whose numbers are below a bound, where each is tested below that bound alone.
use Prim.Native.Nat.{ℕ, ◌≤◌, ◌<◌}
use mathlib.Core.Path.{◌≡◌}
use mathlib.Core.Bool.{Bool, true, false}
use native.Mathlib.Omega.{arith}
use Rattle.std.specs.Prelude.{Option, Some, None, MatchOption}
use Rattle.lists.proofs.Found.{Found}

pub found-below : (f : ℕ → Bool) (n top : ℕ) → n ≤ top → (r : Option ℕ)
    → MatchOption r ((k : ℕ) → 0 ≤ k → k < n → k < top → f k ≡ false) (λ i. (0 ≤ i) × (i < n) × (i < top → f i ≡ true) × ((k : ℕ) → 0 ≤ k → k < i → k < top → f k ≡ false)) → Found f n r
found-below f n top h None none = λ k a b. none k a b (omega arith)
found-below f n top h (Some i) (a, b, hit, off) = (a, b, hit (omega arith), λ k c d. off k c d (omega arith))
