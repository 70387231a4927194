-- A script, computed: sweep, a turn of the edge 4,5 counterclockwise, and a malformed item, a chart with an argument; the sweep behind it is not run.
use Prim.Native.Nat.{ℕ}
use mathlib.Core.Path.{◌≡◌, refl}
use mathlib.Core.List.{List, [], ◌∷◌}
use Rattle.lists.specs.Words.{words}
use Rattle.model.specs.CallLists.{sweep-labels, turn_edges}
use Rattle.script.specs.Scripts.{calls_of, end_of, scripts_computes}

-- the items begin at 0, 4, 13 and 18
pub example : List ℕ
example = 3 ∷ 0 ∷ 0 ∷ 0 ∷ 4 ∷ 5 ∷ 0 ∷ 0 ∷ 1 ∷ 4 ∷ 0 ∷ 5 ∷ 0 ∷ 5 ∷ 1 ∷ 0 ∷ 0 ∷ 7 ∷ 3 ∷ 0 ∷ 0 ∷ 0 ∷ []

-- the calls before the malformed item
pub example_calls : calls_of example ≡ sweep-labels ∷ turn_edges (4 ∷ 5 ∷ []) 1 ∷ []
unfolding example words scripts_computes
example_calls = refl

-- the malformed item stands at 13
pub example_ends : end_of example ≡ 13
unfolding example words scripts_computes
example_ends = refl
