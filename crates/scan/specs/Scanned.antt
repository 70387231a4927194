-- The search for the smallest triple context by context.
use Rattle.std.specs.Prelude.{ℕ, Bool}
use Rattle.std.specs.List.{list_any}
use Rattle.model.specs.Plan.{Plan}
use Rattle.model.specs.Scan.{contexts_after, enclosing}

-- a, b and some c above b enclose
unfoldable pub has_third : Plan → ℕ → ℕ → Bool
has_third p a b = list_any (λ (c : ℕ). enclosing p (a, b, c)) (contexts_after p b)

-- a encloses with some b above it and some c above b
unfoldable pub has_second : Plan → ℕ → Bool
has_second p a = list_any (has_third p a) (contexts_after p a)
