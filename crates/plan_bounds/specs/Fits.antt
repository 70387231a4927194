-- Whether a plan fits the engine's arrays.
use Rattle.std.specs.Prelude.{ℕ, Bool, not, ◌&&◌, leb}
use Rattle.std.specs.List.{list_any}
use Rattle.lists.specs.Parts.{flatten}
use Rattle.model.specs.Plan.{Plan, context_count, neighbour, entry_count}

-- the entry names no context below n
unfoldable pub out_of_range : ℕ → ℕ → Bool
out_of_range n e = leb n (neighbour e)

-- The plan fits: at most 200 contexts, at most 1186 entries, and each of them a context
unfoldable pub fit : Plan → Bool
fit p = leb (context_count p) 200 && (leb (entry_count p) 1186 && not (list_any (out_of_range (context_count p)) (flatten p.rings)))
