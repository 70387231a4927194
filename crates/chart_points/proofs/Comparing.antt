-- The comparison of two charts in flat arrays.
use Prim.Native.Nat.{ℕ, zero, suc}
use mathlib.Core.Path.{◌≡◌, refl}
use mathlib.Core.List.{List}
use lib.ListN.{get_or}
use lib.Dec.{eqb}
use Rattle.std.proofs.Common.{add-one}
use Rattle.std.specs.List.{list_all, range_with_len}
use Rattle.lists.specs.Tests.{same_list}
use Rattle.lists.specs.Spans.{stretch}

-- are k numbers of two arrays from i on the same?
pub all-same : (a b : List ℕ) (i k : ℕ) → list_all (λ (j : ℕ). eqb (get_or a j 0) (get_or b j 0)) (range_with_len i k) ≡ same_list (stretch a i k) (stretch b i k)
unfolding stretch
all-same a b i zero = refl
all-same a b i (suc k) = rw (add-one i, all-same a b (suc i) k)
